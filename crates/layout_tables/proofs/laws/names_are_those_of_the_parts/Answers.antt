use Rattle.layout_tables.proofs.PartNames.{names_all, field_name_at, group_name_at, data_name_at}
use Rattle.layout_tables.proofs.laws.names_are_those_of_the_parts.Goals as goal

pub returns-clause-many : goal.returns-clause-many
returns-clause-many c = names_all

pub returns-clause-fields : goal.returns-clause-fields
returns-clause-fields c = field_name_at

pub returns-clause-groups : goal.returns-clause-groups
returns-clause-groups c = group_name_at

pub returns-clause-data : goal.returns-clause-data
returns-clause-data c = data_name_at
