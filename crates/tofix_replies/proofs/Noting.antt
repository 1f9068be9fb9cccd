-- What a halt says of the refusal that it tells.
use Rattle.std.proofs.Common.{◌≡◌, ℕ, refl, sym, ap, ◌∙◌}
use Rattle.sbe_types.specs.declared.schema.Level.{Level}
use Rattle.fix_values.specs.declared.rule.V.{V}
use Rattle.bridge_terms.specs.Places.{Unsent, over_limit, unwritten, Why, no_text, no_delimiter}
use Rattle.bridge_terms.specs.Plans.{Plan}
use Rattle.message_walk.specs.declared.halt.Cause.{Cause}
use Rattle.message_walk.specs.declared.halt.Cause.TheVariants as cause
use Rattle.message_walk.specs.Halts.{cause_of, halt_of}
use Rattle.way_texts.specs.WayTexts.{way_text}
use Rattle.tofix_replies.specs.Unsent.{of_full, of_unsent, of_why, IsNear}

full_is : {a b : ℕ} → ◌≡◌ {A = Cause} (cause.Full a) (cause.Full b) → a ≡ b
full_is h = cc

text_is : {a b : V} → ◌≡◌ {A = Cause} (cause.NoText a) (cause.NoText b) → a ≡ b
text_is h = cc

why_full : (w : Why) (n : ℕ) → cause_of w ≡ cause.Full n → ⊥
why_full (no_text v) n h = cc
why_full no_delimiter n h = cc

why_text : (w : Why) (v : V) → cause_of w ≡ cause.NoText v → w ≡ no_text v
why_text (no_text u) v h = ap no_text (text_is h)
why_text no_delimiter v h = absurd cc

why_delimiter : (w : Why) → cause_of w ≡ cause.NoDelimiter → w ≡ no_delimiter
why_delimiter (no_text u) h = absurd cc
why_delimiter no_delimiter h = refl

module _ (level : Level) (p : Plan) where
  pub told_full : (u : Unsent) (n : ℕ) → (halt_of u).cause ≡ cause.Full n → of_full n ≡ of_unsent level p u
  told_full (over_limit o) n h = ap of_full (sym (full_is h))
  told_full (unwritten r) n h = absurd (why_full r.why n h)

  pub told_text : (u : Unsent) (v : V) → (halt_of u).cause ≡ cause.NoText v → IsNear u → of_why (no_text v) (way_text p level (halt_of u).way) ≡ of_unsent level p u
  told_text (over_limit o) v h near = absurd cc
  told_text (unwritten r) v h near =
      ap (λ way. of_why (no_text v) (way_text p level way)) near ∙ ap (λ w. of_why w (way_text p level r.way)) (sym (why_text r.why v h))

  pub told_delimiter : (u : Unsent) → (halt_of u).cause ≡ cause.NoDelimiter → IsNear u → of_why no_delimiter (way_text p level (halt_of u).way) ≡ of_unsent level p u
  told_delimiter (over_limit o) h near = absurd cc
  told_delimiter (unwritten r) h near =
      ap (λ way. of_why no_delimiter (way_text p level way)) near ∙ ap (λ w. of_why w (way_text p level r.way)) (sym (why_delimiter r.why h))
