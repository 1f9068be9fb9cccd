-- What the code writes for a message is the reply to it.
use Rattle.std.proofs.Common.{◌≡◌, inl, ℕ, Bool, true, false, List, Option, Some, None, Result, Ok, Err, refl, sym, subst, ◌∙◌}
use Rattle.std.proofs.KnownBytes.{Appends-nil}
use Rattle.sbe_types.specs.declared.schema.Level.{Level}
use Rattle.sbe_base.specs.Objects.{Object}
use Rattle.sbe_base.specs.Writes.{Writes}
use Rattle.sbe_base.specs.declared.status.Status.{Status}
use Rattle.sbe_base.specs.declared.stream.WriteFault.{WriteFault}
use Rattle.open_framing.specs.Frames.{frame}
use Rattle.open_framing.specs.declared.head.TheConstants.{TAG_VALUE}
use Rattle.bridge_terms.specs.Places.{Unsent}
use Rattle.bridge_terms.specs.Plans.{Plan}
use Rattle.tagvalue_codec.specs.Drafts.{Draft, finished}
use Rattle.message_walk.specs.declared.halt.Halt.{Halt}
use Rattle.message_walk.specs.Halts.{halt_of}
use Rattle.refused_items.specs.Refused.{refused_line}
use Rattle.replies.specs.Drafts.{DeliversDraft}
use Rattle.replies.specs.Outside.{sinks_of, at_output, at_notes}
use Rattle.replies.specs.declared.verdict.Verdict.{Verdict}
use Rattle.replies.specs.declared.verdict.Verdict.TheVariants.{Refused, Translated}
use Rattle.fix_messages.specs.Texts.{IsTextBy}
use Rattle.tofix_replies.specs.Covered.{put_so, AreNear}
use Rattle.tofix_replies.specs.ToFix.{noted, sent, text_reply}
use Rattle.tofix_replies.specs.Unsent.{of_unsent, unsent_line, unsent_line_is, IsNear}

module _ (old new : Object (List ℕ)) where
  -- the frame of a text, or a front of it
  pub sent_delivered : (text : List ℕ) (notes : Object (List ℕ)) (put : Result (Unit {0}) WriteFault) → Writes old new (frame TAG_VALUE text) put
      → DeliversDraft (sent text) (sinks_of old notes) (sinks_of new notes) (put_so put Translated)
  sent_delivered text notes (Ok done) w = ((record { output = w.all; notes = Appends-nil notes.told }, w.kept, refl), refl)
  sent_delivered text notes (Err e) w = inl (refl, at_output w.part refl w.failed)

  -- a line of the notes, or a front of it
  pub noted_delivered : (line : List ℕ) (output : Object (List ℕ)) (put : Result (Unit {0}) WriteFault) → Writes old new line put
      → DeliversDraft (noted line) (sinks_of output old) (sinks_of output new) (put_so put Refused)
  noted_delivered line output (Ok done) w = ((record { output = Appends-nil output.told; notes = w.all }, refl, w.kept), refl)
  noted_delivered line output (Err e) w = inl (refl, at_notes (Appends-nil output.told) refl w.part w.failed)

false_true : ◌≡◌ {A = Bool} false true → ⊥
false_true h = cc

-- ---- what a text by its refusal says

pub written_text : (r : Option Unsent) (text : List ℕ) (d : Draft) (h : Halt) → IsTextBy r text true d h → (r ≡ None) × (finished d ≡ text)
written_text None text d h is = (refl, is.1)
written_text (Some u) text d h is = absurd (false_true (sym is.0))

pub untold_text : (r : Option Unsent) (text : List ℕ) (d : Draft) (h : Halt) → IsTextBy r text false d h → (u : Unsent) × (r ≡ Some u) × (h ≡ halt_of u)
untold_text None text d h is = absurd (false_true is.0)
untold_text (Some u) text d h is = (u, refl, is.1)

module _ (item : ℕ) (level : Level) (p : Plan) (text : List ℕ) (refusal : Option Unsent) where
  pub text_sent : (d : Draft) (h : Halt) (old new notes : Object (List ℕ)) (bytes : List ℕ) (put : Result (Unit {0}) WriteFault) (result : Result Verdict Status)
      → IsTextBy refusal text true d h → bytes ≡ finished d → Writes old new (frame TAG_VALUE bytes) put → result ≡ put_so put Translated
      → DeliversDraft (text_reply item level p text refusal) (sinks_of old notes) (sinks_of new notes) result
  text_sent d h old new notes bytes put result is same w told =
      let written = written_text refusal text d h is in
      subst (λ r. DeliversDraft (text_reply item level p text r) (sinks_of old notes) (sinks_of new notes) result) (sym written.0)
      (subst (λ t. DeliversDraft (sent t) (sinks_of old notes) (sinks_of new notes) result) (same ∙ written.1)
      (subst (λ r. DeliversDraft (sent bytes) (sinks_of old notes) (sinks_of new notes) r) (sym told) (sent_delivered old new bytes notes put w)))

  pub text_noted : (d : Draft) (h : Halt) (old new output : Object (List ℕ)) (put : Result (Unit {0}) WriteFault) (result : Result Verdict Status)
      → IsTextBy refusal text false d h → AreNear refusal
      → ((u : Unsent) → h ≡ halt_of u → IsNear u → Writes old new (unsent_line item level p u) put) → result ≡ put_so put Refused
      → DeliversDraft (text_reply item level p text refusal) (sinks_of output old) (sinks_of output new) result
  text_noted d h old new output put result is near w told =
      let untold = untold_text refusal text d h is in
      let u = untold.0 in
      subst (λ r. DeliversDraft (text_reply item level p text r) (sinks_of output old) (sinks_of output new) result) (sym untold.1)
      (subst (λ r. DeliversDraft (noted (refused_line item (of_unsent level p u))) (sinks_of output old) (sinks_of output new) r) (sym told)
      (noted_delivered old new (refused_line item (of_unsent level p u)) output put
      (subst (λ line. Writes old new line put) (unsent_line_is item level p u) (w u untold.2 (near u untold.1)))))
