-- What the laws of messages require of a level of a schema, a structure and a mapping: those of a checked schema and of
-- a checked mapping have it.
use Rattle.std.specs.Prelude.{◌≡◌, ℕ, None, List}
use Rattle.std.specs.List.{AllByRecursion}
use Rattle.sbe_types.specs.declared.schema.Field.{Field}
use Rattle.sbe_types.specs.declared.schema.Group.{Group}
use Rattle.sbe_types.specs.declared.schema.Level.{Level, out-Level}
use Rattle.schema_facts.specs.InOrder.{IsKindFrom}
use Rattle.reference_graph.specs.Expansion.{Structure}
use Rattle.bridge_rules.specs.Bounds.{IsMapped}
use Rattle.bridge_plan.specs.Mappings.{Mapping, datatype_of}
use Rattle.bridge_plan.specs.Covers.{level_in, uncovered}
use Rattle.bridge_plan.specs.StructureFacts.{IsDistinct, EachGroup, HasCount}

-- the kinds of fields are in order
abbrev pub AreOrdered : List Field → Type 0
AreOrdered fields = AllByRecursion (λ (f : Field). IsKindFrom 1 f.kind) fields

-- the same for the fields of a group
abbrev pub HasOrderedFields : Structure → Group → Type 0
HasOrderedFields inner g = AreOrdered (out-Level (level_in g)).fields

-- the level is one of a checked schema, and the structure and the mapping are in order
pub record IsOrdered (m : Mapping) (s : Structure) (level : Level) : Type 0 where
  pub fields : AreOrdered (out-Level level).fields
  pub groups : EachGroup HasOrderedFields s level
  pub mapped : (tag : ℕ) → IsMapped (datatype_of m tag)

-- What the laws of messages rely on: no tag occurs twice in the structure, the level is the root of a message of a
-- checked schema, and the mapping covers it.
pub record IsCovered (m : Mapping) (s : Structure) (level : Level) : Type 0 where
  pub distinct : IsDistinct s
  pub covered : uncovered m s level ≡ None
  pub counts : EachGroup HasCount s level
  pub ordered : IsOrdered m s level

-- each code of the code sets of a mapping has a text of 1 to 64 bytes
abbrev pub HasShortCodes : Mapping → Type 0
HasShortCodes m = (tag : ℕ) → IsMapped (datatype_of m tag)
