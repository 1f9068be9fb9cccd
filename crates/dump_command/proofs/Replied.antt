-- The answer of `dump` to a frame: there is one, and the code writes it.
use Rattle.std.proofs.Common.{◌≡◌, inl, ℕ, Bool, true, false, List, length, Result, Ok, Err, refl, sym, ap, ◌∙◌}
use Rattle.sbe_base.specs.declared.stream.WriteFault.{WriteFault}
use Rattle.open_framing.specs.Frames.{Item}
use Rattle.dump_lines.specs.declared.schemas.Schemas.{Schemas}
use Rattle.dump_lines.specs.Dumped.{Answers, dumped, AreInOrder}
use Rattle.dump_lines.proofs.Answered.{is_answered, answered_once}
use Rattle.std.proofs.KnownBytes.{Appends-nil}
use Rattle.std.specs.Prelude.{[]}
use Rattle.dump_command.specs.Dump.{verdict_of, put_so, IsDumpedLine, IsDumpReply}
use Rattle.replies.specs.Reply.{Reply}
use Rattle.sbe_base.specs.Objects.{Object}
use Rattle.replies.specs.Outside.{sinks_of, at_output}
use Rattle.sbe_base.specs.declared.status.Limits.{Limits}
use Rattle.command_steps.specs.Replies.{HasParts, Replied, by_frames, no_line}
use Rattle.command_steps.proofs.Folding.{AnswersOnce, frames_once}
use Rattle.command_steps.proofs.Told.{as_reply, equal_replies, answered_parts, refused_parts}
use Rattle.replies.specs.declared.verdict.Verdict.{Verdict}
use Rattle.command_steps.specs.declared.kept.Kept.{Kept}

pub is_dumped : (schemas : Schemas) (number : ℕ) (item : Item) → AreInOrder schemas → IsDumpedLine schemas number item (dumped schemas number item).line (verdict_of (dumped schemas number item).is_message)
is_dumped schemas number item order = ((dumped schemas number item).is_message, is_answered schemas number item order, refl)

pub dumped_once : (schemas : Schemas) (number : ℕ) (item : Item) (x y : List ℕ) (p q : Verdict) → AreInOrder schemas → IsDumpedLine schemas number item x p → IsDumpedLine schemas number item y q → (x ≡ y) × (p ≡ q)
dumped_once schemas number item x y p q order h k =
    let same = answered_once schemas number item x y h.0 k.0 order h.1 k.1 in
    (same.0, h.2 ∙ ap verdict_of same.1 ∙ sym k.2)

pub dump_answers : (schemas : Schemas) (limits : Limits) → AreInOrder schemas → AnswersOnce (by_frames limits true no_line (IsDumpReply schemas))
dump_answers schemas limits order = frames_once limits true no_line (IsDumpReply schemas)
    (λ kept item. (as_reply (dumped schemas kept.items item).line [] (verdict_of (dumped schemas kept.items item).is_message), (is_dumped schemas kept.items item order, refl)))
    (λ kept item a b h k.
    let same = dumped_once schemas kept.items item a.output b.output a.verdict b.verdict order h.0 k.0 in
    equal_replies a b same.0 (h.1 ∙ sym k.1) same.1)

-- it counts no parts
dumped_parts : (bytes : ℕ) (is_message : Bool) → HasParts bytes (verdict_of is_message)
dumped_parts bytes true = answered_parts bytes
dumped_parts bytes false = refused_parts bytes

-- ---- what the code writes

module _ (schemas : Schemas) (kept : Kept) (item : Item) (order : AreInOrder schemas) (old new notes : Object (List ℕ)) where
  abbrev reply : Reply
  reply = record { output = (dumped schemas kept.items item).line; notes = []; verdict = verdict_of (dumped schemas kept.items item).is_message }

  is_reply : IsDumpReply schemas kept item reply
  is_reply = (is_dumped schemas kept.items item order, refl)

  pub answered : (put : Result Bool WriteFault) → Answers (dumped schemas kept.items item) old new put → Replied (length item.body) (IsDumpReply schemas kept item) (sinks_of old notes) (sinks_of new notes) (put_so put)
  answered (Ok is_message) h = (reply, is_reply, dumped_parts (length item.body) (dumped schemas kept.items item).is_message, ((record { output = h.0.all; notes = Appends-nil notes.told }, h.0.kept, refl), ap verdict_of h.1))
  answered (Err e) h = (reply, is_reply, dumped_parts (length item.body) (dumped schemas kept.items item).is_message, inl (refl, at_output h.part refl h.failed))
