use Rattle.std.proofs.Common.{◌≡◌, map, take}
use Rattle.map_members.specs.Lent.{lent_members}
use Rattle.field_types.specs.FieldTypes.{set_type}
use Rattle.bridge_table.specs.Codes.{datatype_of_row}
use Rattle.bridge_mapping.proofs.datatypes.types_of.Given as goal

abbrev pub invariant-loop-code_set : goal.invariant-loop-code_set
invariant-loop-code_set l = map datatype_of_row l.types ≡ map set_type (lent_members (take l.code_set-index l.code_sets))
