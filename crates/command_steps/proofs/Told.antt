-- Replies that are told in all their parts.
use Rattle.std.proofs.Common.{◌≡◌, ℕ, List, [], sym, ap, ◌∙◌, arith}
use Rattle.replies.specs.Reply.{Reply}
use Rattle.replies.specs.declared.verdict.Verdict.{Verdict}
use Rattle.replies.specs.declared.verdict.Verdict.TheVariants.{Answered, Refused}
use Rattle.command_steps.specs.Replies.{HasParts}

abbrev pub as_reply : List ℕ → List ℕ → Verdict → Reply
as_reply output notes verdict = record { output = output; notes = notes; verdict = verdict }

pub equal_replies : (a b : Reply) → a.output ≡ b.output → a.notes ≡ b.notes → a.verdict ≡ b.verdict → a ≡ b
equal_replies a b h k t = ap (λ o. as_reply o a.notes a.verdict) h ∙ ap (λ n. as_reply b.output n a.verdict) k ∙ ap (λ (v : Verdict). as_reply b.output b.notes v) t

-- there is one such reply
pub told_once : (output : List ℕ) (verdict : Verdict) (a b : Reply) → (a.output ≡ output) × (a.notes ≡ []) × (a.verdict ≡ verdict) → (b.output ≡ output) × (b.notes ≡ []) × (b.verdict ≡ verdict) → a ≡ b
told_once output verdict a b h k = equal_replies a b (h.0 ∙ sym k.0) (h.1 ∙ sym k.1) (h.2 ∙ sym k.2)

-- these verdicts count no parts
pub answered_parts : (bytes : ℕ) → HasParts bytes Answered
answered_parts bytes = record { dropped = omega arith; filled = omega arith }

pub refused_parts : (bytes : ℕ) → HasParts bytes Refused
refused_parts bytes = record { dropped = omega arith; filled = omega arith }
