-- A reply that is put into an empty draft.
use Rattle.std.proofs.Common.{◌≡◌, ℕ, List, [], ◌++◌, Result, Ok, Err, ap, ◌∙◌}
use Rattle.std.specs.Prelude.{OnOk, IfOk}
use Rattle.lists.specs.declared.list.NoMem.{NoMem}
use Rattle.replies.specs.Reply.{Reply}
use Rattle.replies.specs.declared.draft.Draft.{Draft}
use Rattle.replies.specs.declared.verdict.Verdict.{Verdict}
use Rattle.command_steps.specs.Replies.{HasParts, Drafted}

module _ (IsAnswer : Reply → Type 0) (reply : Reply) (is : IsAnswer reply) (parts : HasParts 0 reply.verdict) (draft : Draft) (old : List ℕ) (none : old ≡ []) (notes : draft.notes.items ≡ reply.notes) where
  pub drafted : (result : Result Verdict NoMem) → OnOk result (draft.output.items ≡ old ++ reply.output) → IfOk result (λ verdict. verdict ≡ reply.verdict) → Drafted IsAnswer draft result
  drafted (Ok verdict) h k = (reply, is, parts, (h ∙ ap (λ o. o ++ reply.output) none, notes, k))
  drafted (Err e) h k = (reply, is, parts, tt)
