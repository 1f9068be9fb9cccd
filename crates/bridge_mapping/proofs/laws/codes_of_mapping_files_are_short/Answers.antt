use Rattle.map_types.specs.Trees.{members_of}
use Rattle.field_types.proofs.ShortCodes.{fields_mapped, codes_are_short}
use Rattle.bridge_plan.proofs.SchemaGives.{table_short}
use Rattle.bridge_mapping.specs.Mapped.{mapping_of}
use Rattle.bridge_mapping.proofs.laws.codes_of_mapping_files_are_short.Goals as goal

pub returns : goal.returns
returns c = λ bytes r h. table_short (mapping_of (members_of r)) (fields_mapped (members_of r).code_sets (members_of r).fields (codes_are_short bytes r h))
