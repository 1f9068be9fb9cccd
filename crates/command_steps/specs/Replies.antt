-- What a command takes from its input and answers for each piece, and what it has done so far.
use Rattle.std.specs.Prelude.{◌≡◌, ◌≤◌, ℕ, ◌+◌, ◌*◌, Bool, false, List, [], ◌∷◌, length, Result, Ok, Err, ⊤}
use Rattle.sbe_base.specs.declared.status.Limits.{Limits}
use Rattle.sbe_base.specs.declared.status.Status.{Status}
use Rattle.sbe_base.specs.declared.status.Status.TheVariants as status
use Rattle.lists.specs.declared.list.NoMem.{NoMem}
use Rattle.open_framing.specs.Frames.{Item}
use Rattle.replies.specs.Reply.{Written, Reply, written_of, none_written, then_written}
use Rattle.replies.specs.Outside.{Sinks}
use Rattle.replies.specs.Drafts.{Drafts, DeliversDraft}
use Rattle.replies.specs.declared.draft.Draft.{Draft}
use Rattle.replies.specs.declared.verdict.Verdict.{Verdict}
use Rattle.replies.specs.declared.verdict.Verdict.TheVariants.{Answered, Refused, Translated, Regraded}
use Rattle.command_steps.specs.Splits.{Reading, Frames, Lines, Once, Piece, Frame, Line, Whole, Other, piece_bytes}
use Rattle.command_steps.specs.declared.kept.Kept.{Kept}

-- ---- what a command answers

-- How a command reads its input, which replies a piece may have, whether it takes no memory for one, and the last line
-- of its notes, by the numbers of a run that answered all of its input.
pub record Answering : Type 1 where
  pub reading : Reading
  pub IsReply : Kept → Piece → Reply → Type 0
  pub spares : Bool
  pub last : Kept → List ℕ

-- a reply to a frame, and to nothing else
abbrev pub FrameReply : (Kept → Item → Reply → Type 0) → Kept → Piece → Reply → Type 0
FrameReply IsAnswer kept (Frame item) reply = IsAnswer kept item reply
FrameReply IsAnswer kept (Line line has_end) reply = ⊥
FrameReply IsAnswer kept Whole reply = ⊥
FrameReply IsAnswer kept (Other bytes kind) reply = ⊥

-- a reply to a line, whether or not its end is there, and to nothing else
abbrev pub LineReply : (Kept → List ℕ → Reply → Type 0) → Kept → Piece → Reply → Type 0
LineReply IsAnswer kept (Frame item) reply = ⊥
LineReply IsAnswer kept (Line line has_end) reply = IsAnswer kept line reply
LineReply IsAnswer kept Whole reply = ⊥
LineReply IsAnswer kept (Other bytes kind) reply = ⊥

-- a reply to a whole job, and to nothing else
abbrev pub WholeReply : (Reply → Type 0) → Kept → Piece → Reply → Type 0
WholeReply IsAnswer kept (Frame item) reply = ⊥
WholeReply IsAnswer kept (Line line has_end) reply = ⊥
WholeReply IsAnswer kept Whole reply = IsAnswer reply
WholeReply IsAnswer kept (Other bytes kind) reply = ⊥

-- A command that answers each frame, and ends its notes with this line.
abbrev pub by_frames : Limits → Bool → (Kept → List ℕ) → (Kept → Item → Reply → Type 0) → Answering
by_frames limits spares last IsAnswer = record { reading = Frames limits; IsReply = FrameReply IsAnswer; spares = spares; last = last }

-- A command that answers each line, and ends its notes with this line.
abbrev pub by_lines : ℕ → (Kept → List ℕ) → (Kept → List ℕ → Reply → Type 0) → Answering
by_lines input last IsAnswer = record { reading = Lines input; IsReply = LineReply IsAnswer; spares = false; last = last }

-- no last line
abbrev pub no_line : Kept → List ℕ
no_line kept = []

-- A command that takes nothing from its input, and answers once.
abbrev pub by_whole : (Reply → Type 0) → Answering
by_whole IsAnswer = record { reading = Once; IsReply = WholeReply IsAnswer; spares = false; last = no_line }

-- ---- what a verdict counts

-- How many refusals a verdict counts.
abbrev pub refusals : Verdict → ℕ
refusals Answered = 0
refusals Refused = 1
refusals Translated = 0
refusals (Regraded dropped filled) = 0

-- How many translations a verdict counts.
abbrev pub translations : Verdict → ℕ
translations Answered = 0
translations Refused = 0
translations Translated = 1
translations (Regraded dropped filled) = 0

-- How many dropped parts a verdict counts.
abbrev pub parts_dropped : Verdict → ℕ
parts_dropped Answered = 0
parts_dropped Refused = 0
parts_dropped Translated = 0
parts_dropped (Regraded dropped filled) = dropped

-- How many filled parts a verdict counts.
abbrev pub parts_filled : Verdict → ℕ
parts_filled Answered = 0
parts_filled Refused = 0
parts_filled Translated = 0
parts_filled (Regraded dropped filled) = filled

-- the most parts that may be counted for this many bytes, so that those of the whole input fit 64 bits
abbrev pub most_parts : ℕ → ℕ
most_parts bytes = bytes * 1_048_576

-- a verdict on this many bytes counts at most as many parts of either sort
pub record HasParts (bytes : ℕ) (verdict : Verdict) : Type 0 where
  pub dropped : parts_dropped verdict ≤ most_parts bytes
  pub filled : parts_filled verdict ≤ most_parts bytes

-- ---- what a call of a command answers

-- One of these replies for this many bytes is written; or a part of it, and a call failed; or it is out of memory, and
-- nothing is written.
abbrev pub Replied : ℕ → (Reply → Type 0) → Sinks → Sinks → Result Verdict Status → Type 0
Replied bytes IsAnswer old new result = (reply : Reply) × IsAnswer reply × HasParts bytes reply.verdict × DeliversDraft reply old new result

-- One of these replies is drafted, unless it is out of memory. The reply counts no parts.
abbrev pub Drafted : (Reply → Type 0) → Draft → Result Verdict NoMem → Type 0
Drafted IsAnswer draft result = (reply : Reply) × IsAnswer reply × HasParts 0 reply.verdict × Drafts reply draft result

-- a command that takes no memory is never out of it
abbrev pub Wants : Bool → Result Verdict Status → Type 0
Wants spares (Ok verdict) = ⊤
Wants spares (Err code) = code ≡ status.NoMemory → spares ≡ false

-- ---- what was done so far

-- The numbers before the first piece.
abbrev pub none_kept : Kept
none_kept = record { items = 0; refused = 0; translated = 0; dropped = 0; filled = 0; bytes = 0 }

-- the numbers after one more piece with this many bytes
abbrev pub counted_by : Kept → ℕ → Verdict → Kept
counted_by kept bytes verdict = record {
  items = kept.items + 1;
  refused = kept.refused + refusals verdict;
  translated = kept.translated + translations verdict;
  dropped = kept.dropped + parts_dropped verdict;
  filled = kept.filled + parts_filled verdict;
  bytes = kept.bytes + bytes;
}

-- The numbers after one more piece.
abbrev pub counted : Kept → Piece → Verdict → Kept
counted kept piece verdict = counted_by kept (length (piece_bytes piece)) verdict

-- The replies to pieces in order, and the numbers after them.
abbrev pub Replies : Answering → Kept → List Piece → Written → Kept → Type 0
Replies on kept [] written after = (written ≡ none_written) × (after ≡ kept)
Replies on kept (piece ∷ pieces) written after =
    (reply : Reply) × (more : Written) × on.IsReply kept piece reply × Replies on (counted kept piece reply.verdict) pieces more after
    × (written ≡ then_written (written_of reply) more)
