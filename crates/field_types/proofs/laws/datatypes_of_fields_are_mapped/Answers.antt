use Rattle.field_types.proofs.ShortCodes.{field_mapped, fields_mapped, codes_are_short}
use Rattle.field_types.proofs.laws.datatypes_of_fields_are_mapped.Goals as goal

pub returns-clause-field : goal.returns-clause-field
returns-clause-field c = field_mapped

pub returns-clause-table : goal.returns-clause-table
returns-clause-table c = fields_mapped

pub returns-clause-file : goal.returns-clause-file
returns-clause-file c = codes_are_short
