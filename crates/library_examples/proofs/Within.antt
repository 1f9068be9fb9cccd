-- The template of a message that a line holds is one of the schema's.
use Rattle.std.proofs.Common.{◌≡◌, ◌<◌, ℕ, zero, suc, List, [], ◌∷◌, length, Ok, arith}
use Rattle.std.specs.Prelude.{slice_get}
use Rattle.std.specs.Option.{IsSome}
use Rattle.sbe_types.specs.declared.schema.WireSchema.{WireSchema}
use Rattle.sbe_types.specs.declared.message.Msg.{Msg}
use Rattle.line_reading.specs.Lines.{tree_of}
use Rattle.line_facts.proofs.Templates.{template_there}

within : {X : Type 0} (xs : List X) (i : ℕ) → IsSome (slice_get xs i) → i < length xs
within [] i h = absurd cc
within (x ∷ xs) zero h = omega arith
within (x ∷ xs) (suc i) h = omega (arith, within xs i h)

pub template_within : (schema : WireSchema) (line : List ℕ) (m : Msg) → tree_of schema line ≡ Ok m → m.template < length schema.messages
template_within schema line m h = within schema.messages m.template (template_there schema line m h)
