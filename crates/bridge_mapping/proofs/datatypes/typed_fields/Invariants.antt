use Rattle.std.proofs.Common.{◌≡◌, List, map, take}
use Rattle.map_types.specs.declared.tree.CodeSetEl.{CodeSetEl}
use Rattle.map_members.specs.Lent.{lent_members}
use Rattle.field_types.specs.FieldTypes.{datatypes_of}
use Rattle.bridge_table.specs.declared.datatype.Datatype.{Datatype as FieldDatatype}
use Rattle.bridge_mapping.specs.Tables.{typed, AreSets}
use Rattle.bridge_mapping.proofs.datatypes.typed_fields.Given as goal

abbrev pub invariant-loop-field : goal.invariant-loop-field
invariant-loop-field l =
    (sets : List CodeSetEl) (types : List FieldDatatype) → AreSets sets l.fn.names types →
    map (typed types) l.all ≡ datatypes_of sets (lent_members (take l.field-index l.fields))
