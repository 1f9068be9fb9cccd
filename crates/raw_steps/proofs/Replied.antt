-- The answer to an item: there is one, and the code writes it.
use Rattle.std.proofs.Common.{◌≡◌, ℕ, ◌+◌, List, [], ◌++◌, length, Result, Ok, Err, inl, refl, sym, ap, ◌∙◌, append_assoc}
use Rattle.std.proofs.KnownBytes.{Appends-nil}
use Rattle.byte_digits.specs.Digits.{digits_high_first}
use Rattle.sbe_base.specs.Objects.{Object}
use Rattle.sbe_base.specs.Writes.{Writes}
use Rattle.sbe_base.specs.declared.status.Limits.{Limits}
use Rattle.sbe_base.specs.declared.stream.WriteFault.{WriteFault}
use Rattle.open_framing.specs.Frames.{frame}
use Rattle.open_framing.specs.declared.head.TheConstants.{HEAD_BYTES}
use Rattle.tagvalue_codec.specs.declared.data_tags.Pair.{Pair}
use Rattle.raw_fix.specs.declared.code.PCode.TheVariants.{Prefix, Ends, Text}
use Rattle.raw_fix.specs.Raw.{Kind, Message, Garbled}
use Rattle.command_steps.specs.Splits.{Piece, Other}
use Rattle.command_steps.specs.Replies.{HasParts}
use Rattle.command_steps.specs.declared.kept.Kept.{Kept}
use Rattle.command_steps.proofs.Folding.{AnswersOnce}
use Rattle.command_steps.proofs.Told.{answered_parts, refused_parts}
use Rattle.replies.specs.Drafts.{DeliversDraft}
use Rattle.replies.specs.Outside.{sinks_of, at_output, at_notes}
use Rattle.replies.specs.Reply.{Reply}
use Rattle.replies.specs.declared.verdict.Verdict.TheVariants.{Answered, Refused}
use Rattle.raw_reading.specs.Reading.{kind_number}
use Rattle.raw_steps.specs.RawReplies.{by_texts, reply_to, IsRawReply, put_so}

-- ---- there is one reply

same_kind : (a b : Kind) → kind_number a ≡ kind_number b → a ≡ b
same_kind Message Message e = refl
same_kind Message (Garbled Prefix) e = cc
same_kind Message (Garbled Ends) e = cc
same_kind Message (Garbled Text) e = cc
same_kind (Garbled Prefix) Message e = cc
same_kind (Garbled Ends) Message e = cc
same_kind (Garbled Text) Message e = cc
same_kind (Garbled Prefix) (Garbled Prefix) e = refl
same_kind (Garbled Prefix) (Garbled Ends) e = cc
same_kind (Garbled Prefix) (Garbled Text) e = cc
same_kind (Garbled Ends) (Garbled Prefix) e = cc
same_kind (Garbled Ends) (Garbled Ends) e = refl
same_kind (Garbled Ends) (Garbled Text) e = cc
same_kind (Garbled Text) (Garbled Prefix) e = cc
same_kind (Garbled Text) (Garbled Ends) e = cc
same_kind (Garbled Text) (Garbled Text) e = refl

other_is : {b c : List ℕ} {m n : ℕ} → Other b m ≡ Other c n → (b ≡ c) × (m ≡ n)
other_is e = (cc, cc)

one_reply : (kept : Kept) (piece : Piece) (a b : Reply) → IsRawReply kept piece a → IsRawReply kept piece b → a ≡ b
one_reply kept piece a b h k =
    let same = other_is (sym h.1 ∙ k.1) in
    h.2 ∙ ap (λ (kind : Kind). reply_to kept kind h.0.bytes) (same_kind h.0.kind k.0.kind same.1) ∙ ap (reply_to kept k.0.kind) same.0 ∙ sym k.2

pub raw_answers : (tags : List Pair) (limits : Limits) → AnswersOnce (by_texts tags limits)
raw_answers tags limits = record {
  some = λ kept piece suits. (reply_to kept suits.0.kind suits.0.bytes, (suits.0, suits.1, refl));
  only = one_reply;
}

-- it counts no parts
pub reply_parts : (kept : Kept) (kind : Kind) (bytes : List ℕ) → HasParts (length bytes) (reply_to kept kind bytes).verdict
reply_parts kept Message bytes = answered_parts (length bytes)
reply_parts kept (Garbled code) bytes = refused_parts (length bytes)

-- ---- what the code writes

-- the head of a frame, and its text after it
pub head_is : (encoding : ℕ) (body head : List ℕ) → head ≡ digits_high_first 4 (length body + HEAD_BYTES) ++ digits_high_first 2 encoding → head ++ body ≡ frame encoding body
head_is encoding body head h = ap (λ x. x ++ body) h ∙ append_assoc (digits_high_first 4 (length body + HEAD_BYTES)) (digits_high_first 2 encoding) body

-- bytes of the output
abbrev answered : List ℕ → Reply
answered line = record { output = line; notes = []; verdict = Answered }

-- a line of the notes
abbrev noted_line : List ℕ → Reply
noted_line line = record { output = []; notes = line; verdict = Refused }

module _ (line : List ℕ) (old new : Object (List ℕ)) where
  -- bytes of the output, or a front of them
  pub output_delivered : (notes : Object (List ℕ)) (put : Result (Unit {0}) WriteFault) → Writes old new line put → DeliversDraft (answered line) (sinks_of old notes) (sinks_of new notes) (put_so put Answered)
  output_delivered notes (Ok done) w = ((record { output = w.all; notes = Appends-nil notes.told }, w.kept, refl), refl)
  output_delivered notes (Err e) w = inl (refl, at_output w.part refl w.failed)

  -- a line of the notes, or a front of it
  pub note_delivered : (output : Object (List ℕ)) (put : Result (Unit {0}) WriteFault) → Writes old new line put → DeliversDraft (noted_line line) (sinks_of output old) (sinks_of output new) (put_so put Refused)
  note_delivered output (Ok done) w = ((record { output = Appends-nil output.told; notes = w.all }, refl, w.kept), refl)
  note_delivered output (Err e) w = inl (refl, at_notes (Appends-nil output.told) refl w.part w.failed)
