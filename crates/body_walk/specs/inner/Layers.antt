-- Levels of a schema.
use Rattle.std.specs.Prelude.{◌≡◌, ℕ, Some}
use Rattle.sbe_types.specs.declared.schema.Level.{Level}
use Rattle.sbe_types.specs.declared.schema.WireSchema.{WireSchema}
use Rattle.schema_facts.specs.Levels.{level_at}
use Rattle.body_walk.specs.declared.layer.Layer.{Layer}
use Rattle.body_walk.specs.inner.Ready.{IsReadySchema}

-- a level of a schema that is ready
pub record HasLevel (schema : WireSchema) (number : ℕ) (level : Level) : Type 0 where
  pub ready : IsReadySchema schema
  pub level_is : level_at schema number ≡ Some level

-- the level is that of its number, in a schema that is ready
abbrev pub IsLayer : Layer → Type 0
IsLayer l = HasLevel l.layout.now l.number l.level.now
