-- What the walk over values requires of fields.
use Rattle.std.specs.Prelude.{List}
use Rattle.std.specs.List.{AllByRecursion}
use Rattle.sbe_types.specs.declared.schema.Field.{Field}
use Rattle.body_walk.specs.inner.Kinds.{IsReady}

-- the kinds of fields are in order, and each of their composites has at most as many members as the limit
abbrev pub AreReady : List Field → Type 0
AreReady fields = AllByRecursion (λ (f : Field). IsReady f.kind) fields
