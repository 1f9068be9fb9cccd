-- The answer of `fixcheck` to a frame: there is one, and the code writes it.
use Rattle.std.proofs.Common.{◌≡◌, inl, inr, ℕ, Bool, true, false, List, length, Result, Ok, Err, refl, sym, ap, ◌∙◌}
use Rattle.std.proofs.KnownBytes.{Appends-nil}
use Rattle.sbe_base.specs.Objects.{Object}
use Rattle.sbe_base.specs.Writes.{Writes}
use Rattle.sbe_base.specs.declared.status.Limits.{Limits}
use Rattle.sbe_base.specs.declared.status.Status.{Status}
use Rattle.sbe_base.specs.declared.status.Status.TheVariants as status
use Rattle.sbe_base.specs.declared.stream.WriteFault.{WriteFault}
use Rattle.open_framing.specs.Frames.{Item}
use Rattle.open_framing.specs.declared.head.TheConstants.{TAG_VALUE}
use Rattle.tagvalue_codec.specs.declared.data_tags.Pair.{Pair}
use Rattle.tagvalue_codec.specs.declared.read.FixFault.{FixFault}
use Rattle.tagvalue_codec.specs.Fields.{Field}
use Rattle.tagvalue_codec.proofs.Whole.{one_text, one_fault, not_both, text_or_fault}
use Rattle.refused_items.specs.Refused.{refused_line, of_encoding}
use Rattle.schema_files.proofs.Deciding.{numbers}
use Rattle.command_steps.specs.Replies.{Replied, by_frames, no_line}
use Rattle.command_steps.proofs.Folding.{AnswersOnce, frames_once}
use Rattle.command_steps.proofs.Told.{answered_parts, refused_parts}
use Rattle.replies.specs.Outside.{sinks_of, at_output, at_notes}
use Rattle.replies.specs.Reply.{Reply}
use Rattle.replies.specs.declared.verdict.Verdict.TheVariants.{Answered, Refused}
use Rattle.fixcheck_command.specs.FixCheck.{type_of, text_line, of_fault, answered, noted, IsTextReply, other_encoding, a_text, a_fault, IsFixCheckReply, put_so}

-- ---- there is one reply

-- the line of a text's fields
abbrev line_of : ℕ → List Field → Reply
line_of number fields = answered (text_line number (type_of fields) (length fields))

-- the note of a fault
abbrev note_of : ℕ → FixFault → Reply
note_of number fault = noted (refused_line number (of_fault fault))

module _ (tags : List Pair) (number : ℕ) (item : Item) where
  some_reply : (reply : Reply) × IsTextReply tags number item reply
  some_reply = elim (numbers item.encoding TAG_VALUE) [
    | inl same ↦ elim (text_or_fault tags item.body) [
      | inl text ↦ (line_of number text.0, a_text same text.0 text.1 refl)
      | inr fault ↦ (note_of number fault.0, a_fault same fault.0 fault.1 refl)
    ]
    | inr differs ↦ (noted (refused_line number (of_encoding item.encoding)), other_encoding differs refl)
  ]

  one_reply : (a b : Reply) → IsTextReply tags number item a → IsTextReply tags number item b → a ≡ b
  one_reply a b h k = elim h [
    | other_encoding n e ↦ elim k [ other_encoding m f ↦ e ∙ sym f | a_text j gs u f ↦ absurd (n j) | a_fault j g u f ↦ absurd (n j) ]
    | a_text i fields t e ↦ elim k [
      | other_encoding m f ↦ absurd (m i)
      | a_text j gs u f ↦ e ∙ ap (line_of number) (one_text tags item.body fields gs t u) ∙ sym f
      | a_fault j g u f ↦ absurd (not_both tags item.body fields g t u)
    ]
    | a_fault i fault t e ↦ elim k [
      | other_encoding m f ↦ absurd (m i)
      | a_text j gs u f ↦ absurd (not_both tags item.body gs fault u t)
      | a_fault j g u f ↦ e ∙ ap (note_of number) (one_fault tags item.body fault g t u) ∙ sym f
    ]
  ]

pub fixcheck_answers : (tags : List Pair) (limits : Limits) → AnswersOnce (by_frames limits true no_line (IsFixCheckReply tags))
fixcheck_answers tags limits = frames_once limits true no_line (IsFixCheckReply tags)
    (λ kept item. some_reply tags kept.items item)
    (λ kept item a b h k. one_reply tags kept.items item a b h k)

-- ---- what the code writes

-- a failed write is never out of memory
pub no_memory_wanted : ◌≡◌ {A = Status} status.WriteFault status.NoMemory → ◌≡◌ {A = Bool} true false
no_memory_wanted h = cc

module _ (bytes : ℕ) (IsAnswer : Reply → Type 0) (line : List ℕ) (old new : Object (List ℕ)) where
  -- a line of the output, or a front of it
  pub text_replied : IsAnswer (answered line) → (notes : Object (List ℕ)) (put : Result (Unit {0}) WriteFault) → Writes old new line put
      → Replied bytes IsAnswer (sinks_of old notes) (sinks_of new notes) (put_so put Answered)
  text_replied is notes (Ok done) w = (answered line, is, answered_parts bytes, ((record { output = w.all; notes = Appends-nil notes.told }, w.kept, refl), refl))
  text_replied is notes (Err e) w = (answered line, is, answered_parts bytes, inl (refl, at_output w.part refl w.failed))

  -- a line of the notes, or a front of it
  pub note_replied : IsAnswer (noted line) → (output : Object (List ℕ)) (put : Result (Unit {0}) WriteFault) → Writes old new line put
      → Replied bytes IsAnswer (sinks_of output old) (sinks_of output new) (put_so put Refused)
  note_replied is output (Ok done) w = (noted line, is, refused_parts bytes, ((record { output = Appends-nil output.told; notes = w.all }, refl, w.kept), refl))
  note_replied is output (Err e) w = (noted line, is, refused_parts bytes, inl (refl, at_notes (Appends-nil output.told) refl w.part w.failed))
