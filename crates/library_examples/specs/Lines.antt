-- What is reported of the template of a line.
use Rattle.std.specs.Prelude.{◌≡◌, ℕ, List, Some, Ok, Err, slice_get, ⊤}
use Rattle.std.specs.Option.{option_map}
use Rattle.sbe_types.specs.declared.schema.Level.{out-Level}
use Rattle.sbe_types.specs.declared.schema.WireSchema.{WireSchema}
use Rattle.sbe_types.specs.declared.message.Msg.{Msg}
use Rattle.line_values.specs.declared.refusals.LineFault.{LineFault}
use Rattle.line_values.specs.declared.refusals.LineFault.TheVariants.{Refused, Memory}
use Rattle.line_values.specs.Refusals.{refusal}
use Rattle.line_reading.specs.Lines.{tree_of}

-- The line holds a message, and this is the name of its template.
pub record NamesTemplate (schema : WireSchema) (line name : List ℕ) : Type 0 where
  pub message : Msg
  pub held : tree_of schema line ≡ Ok message
  pub named : option_map (λ level. (out-Level level).name) (slice_get schema.messages message.template) ≡ Some name

-- the line isn't a message, by the first refusal; nothing is required when out of memory
abbrev pub IsRefused : WireSchema → List ℕ → LineFault → Type 0
IsRefused schema line (Refused code place) = tree_of schema line ≡ Err (refusal code place)
IsRefused schema line Memory = ⊤
