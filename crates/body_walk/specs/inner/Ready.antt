-- What the walk requires of a schema.
use Rattle.std.specs.List.{AllByRecursion}
use Rattle.sbe_types.specs.declared.schema.Field.{Field}
use Rattle.sbe_types.specs.declared.schema.Level.{out-Level}
use Rattle.sbe_types.specs.declared.schema.WireSchema.{WireSchema}
use Rattle.schema_facts.specs.IsChecked.{IsChecked, EachLevel}
use Rattle.body_walk.specs.inner.Kinds.{HasFewMembers}

-- the schema is checked, and each composite of its fields has at most as many members as the limit
pub record IsReadySchema (schema : WireSchema) : Type 0 where
  pub checked : IsChecked schema
  pub few : EachLevel (λ node. AllByRecursion (λ (f : Field). HasFewMembers f.kind) (out-Level node.level).fields) schema
