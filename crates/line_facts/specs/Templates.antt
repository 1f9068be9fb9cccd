-- The template and the version of a message that a line holds. Own profile.
use Rattle.std.specs.Prelude.{◌≡◌, ℕ, List, Ok, slice_get}
use Rattle.std.specs.Option.{IsSome}
use Rattle.sbe_types.specs.declared.schema.WireSchema.{WireSchema}
use Rattle.sbe_types.specs.declared.message.Msg.{Msg}
use Rattle.line_reading.specs.Lines.{tree_of}

-- The schema has the message's template, and the message is of the schema's version.
pub record IsOfSchema (schema : WireSchema) (m : Msg) : Type 0 where
  pub template : IsSome (slice_get schema.messages m.template)
  pub version : m.version ≡ schema.version

-- the same holds of each message that a line holds
abbrev pub LinesHaveTemplates : Type 0
LinesHaveTemplates = (schema : WireSchema) (line : List ℕ) (m : Msg) → tree_of schema line ≡ Ok m → IsOfSchema schema m
