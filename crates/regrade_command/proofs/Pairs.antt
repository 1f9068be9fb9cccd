-- What holds of the two schemas of a pair, seen from inside it.
use Rattle.std.proofs.Common.{◌≡◌, ◌<◌, ◌∙◌, ℕ, List, Option, Some, None, length, refl, ap, subst, sym}
use Rattle.std.specs.Prelude.{slice_get}
use Rattle.std.specs.Option.{IsSome}
use Rattle.std.proofs.lemmas.Option.{slice_get_within}
use Rattle.sbe_types.specs.declared.kind.Order.{Order}
use Rattle.sbe_types.specs.declared.schema.Level.{Level}
use Rattle.sbe_types.specs.declared.schema.WireSchema.{WireSchema}
use Rattle.dump_lines.specs.Dumped.{encoding_of}
use Rattle.regrade_command.specs.Regrade.{FromTo}

-- a schema that is one of the pair
pub from_is : (read : WireSchema) (inside pair : FromTo) → read ≡ inside.from → inside ≡ pair → read ≡ pair.from
from_is read inside pair is same = is ∙ ap (λ (p : FromTo). p.from) same

pub to_is : (written : WireSchema) (inside pair : FromTo) → written ≡ inside.to → inside ≡ pair → written ≡ pair.to
to_is written inside pair is same = is ∙ ap (λ (p : FromTo). p.to) same

-- the number of its byte order
pub code_is : (read from : WireSchema) (order : Order) (code : ℕ) → code ≡ encoding_of order → order ≡ read.order → read ≡ from →
    code ≡ encoding_of from.order
code_is read from order code h k is = h ∙ ap encoding_of (k ∙ ap (λ (s : WireSchema). s.order) is)

within : (xs : List Level) (i : ℕ) (o : Option Level) → slice_get xs i ≡ o → IsSome o → i < length xs
within xs i None at some = cc
within xs i (Some x) at some = slice_get_within xs i x at

-- a template of the schema
pub template_within : (read from : WireSchema) (template : ℕ) → read ≡ from → IsSome (slice_get from.messages template) →
    template < length read.messages
template_within read from template is known =
    within read.messages template (slice_get read.messages template) refl (subst (λ (s : WireSchema). IsSome (slice_get s.messages template)) (sym is) known)
