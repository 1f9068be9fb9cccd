-- What each step of a command does to its input, and how the steps end.
use Rattle.std.specs.Prelude.{◌≡◌, ◌≤◌, ◌<◌, ◌⊎◌, ◌==◌, ℕ, ◌+◌, ◌-◌, Bool, true, false, Option, Some, None, Result, Ok, Err, List, [], ◌∷◌, ◌++◌, length, ⊤}
use Rattle.sbe_base.specs.declared.status.Status.{Status}
use Rattle.sbe_base.specs.declared.status.Status.TheVariants as status
use Rattle.command_steps.specs.Splits.{Reading, Frames, Lines, Once, Nothing, Others, Piece, PieceEnd, End, piece_bytes, is_read, most_pieces, Splits, Holds, Keeps, most_taken}
use Rattle.command_steps.specs.Ahead.{Ahead, none_ahead, Follows}
use Rattle.command_steps.specs.Reaches.{IsAhead, Reaches}
use Rattle.replies.specs.Reply.{Written, Reply, written_of}
use Rattle.command_steps.specs.Replies.{Answering, none_kept, counted, counted_by, Replies}
use Rattle.command_steps.specs.Ends.{stop_line, end_notes, end_status}
use Rattle.sbe_base.specs.Objects.{Failed}
use Rattle.replies.specs.Outside.{Streams, Wrote, Breaks, Calm, NotesLine}
use Rattle.command_steps.specs.declared.kept.Kept.{Kept}
use Rattle.command_steps.specs.declared.step.Step.{Step}
use Rattle.command_steps.specs.declared.step.Step.TheVariants.{Went, Ended}
use Rattle.command_steps.specs.declared.step.Tally.{Tally}
use Rattle.command_steps.specs.declared.end.Stop.TheVariants as stop

-- what was done so far, what is known of the input after that, and the status if the end was reached
pub record Moment : Type 0 where
  pub kept : Kept
  pub ahead : Ahead
  pub ended : Option Status

-- A moment before the end.
abbrev pub running : Kept → Ahead → Moment
running kept ahead = record { kept = kept; ahead = ahead; ended = None }

-- Nothing is done yet.
abbrev pub opened : Moment
opened = running none_kept none_ahead

-- ---- a step

-- one job to do, or none
abbrev pub once_if : Bool → Reading
once_if true = Once
once_if false = Nothing

-- the reading of what follows what was done
abbrev pub reading_after : Reading → Kept → Reading
reading_after (Frames limits) kept = Frames (record { frame = limits.frame; input = limits.input - kept.bytes })
reading_after (Lines input) kept = Lines (input - kept.bytes)
reading_after Once kept = once_if (kept.items == 0)
reading_after Nothing kept = Nothing
reading_after (Others reading laws input) kept = Others reading laws (input - kept.bytes)

-- how a pump continues to read
abbrev pub reading_on : Answering → Moment → Reading
reading_on on pump = reading_after on.reading pump.kept

-- The next piece was taken, and its reply was written; the numbers count it.
pub record TakesPiece (on : Answering) (old new : Moment) (before after : Streams) (input : List ℕ) : Type 0 where
  pub piece : Piece
  pub reply : Reply
  pub left : List ℕ
  pub source : Follows new.ahead after.input.told left
  pub taken : Reaches new.ahead (reading_on on old) input (piece ∷ []) left
  -- what was held is still held, or is in the piece
  pub keeps : Keeps on.reading old.ahead.held (piece_bytes piece ++ new.ahead.held)
  pub stays : old.ahead.is_all ≡ true → new.ahead.is_all ≡ true
  pub replied : on.IsReply old.kept piece reply
  pub wrote : Wrote before.sinks after.sinks (written_of reply)
  pub kept : new.kept ≡ counted old.kept piece reply.verdict

-- A step that answers a piece. Nothing was taken beyond a frame.
pub record Goes (on : Answering) (old new : Moment) (before after : Streams) : Type 0 where
  pub answers : (input : List ℕ) → Follows old.ahead before.input.told input → TakesPiece on old new before after input
  pub unmet : old.ahead.met_end ≡ false
  pub ahead : IsAhead on.reading new.ahead
  pub calm : Calm before after
  pub runs : new.ended ≡ None
  -- the items grow up to their most, and the bytes of the input up to the limit
  pub more : old.kept.items < new.kept.items
  pub within : new.kept.items ≤ most_pieces on.reading
  pub bytes_more : is_read on.reading ≡ true → old.kept.bytes < new.kept.bytes
  pub bytes_within : new.kept.bytes ≤ most_taken on.reading
  -- a job that takes nothing from the input leaves it as it was
  pub unread : is_read on.reading ≡ false → after.input ≡ before.input

-- ---- the end of the steps

-- The pieces end here: everything that was taken after the last one is reported, or nothing is left of an input that is
-- read.
pub record Ends (on : Answering) (pump : Moment) (before after : Streams) (input : List ℕ) (code : Status) : Type 0 where
  pub end : PieceEnd
  pub split : Splits (reading_on on pump) input [] end
  pub left : is_read on.reading ≡ true → end ≡ End → after.input.told ≡ Some []
  pub output : after.sinks.output ≡ before.sinks.output
  pub noted : NotesLine (end_notes on end pump.kept) (end_status end pump.kept.refused) before.sinks.notes after.sinks.notes code

-- A read failed. What was taken before doesn't contain a whole piece.
pub record Stalls (on : Answering) (pump : Moment) (before after : Streams) (input : List ℕ) (code : Status) : Type 0 where
  pub unmet : pump.ahead.met_end ≡ false
  pub held : List ℕ
  pub left : List ℕ
  pub source : after.input.told ≡ Some left
  pub taken : input ≡ held ++ left
  pub keeps : Keeps on.reading pump.ahead.held held
  pub reads : pump.ahead.is_all ≡ false
  pub part : Holds (reading_on on pump) held []
  pub fault : Failed before.input after.input
  pub output : after.sinks.output ≡ before.sinks.output
  pub noted : NotesLine (stop_line (stop.ReadFault (pump.kept.bytes + length held))) status.ReadFault before.sinks.notes after.sinks.notes code

-- A write of the next piece's reply failed, or it is out of memory. Nothing was taken beyond a frame.
pub record Fails (on : Answering) (pump : Moment) (after : Streams) (input : List ℕ) (IsWritten : Reply → Type 0) : Type 0 where
  pub piece : Piece
  pub reply : Reply
  pub left : List ℕ
  pub unmet : pump.ahead.met_end ≡ false
  pub ahead : Ahead
  pub only_lines : IsAhead on.reading ahead
  pub source : Follows ahead after.input.told left
  pub taken : Reaches ahead (reading_on on pump) input (piece ∷ []) left
  pub keeps : Keeps on.reading pump.ahead.held (piece_bytes piece ++ ahead.held)
  pub stays : pump.ahead.is_all ≡ true → ahead.is_all ≡ true
  pub replied : on.IsReply pump.kept piece reply
  pub wrote : IsWritten reply

-- How the steps end.
pub data Halts (on : Answering) (pump : Moment) (before after : Streams) (input : List ℕ) (code : Status) : Type 0 where
  ended_at : Ends on pump before after input code → Halts on pump before after input code
  stalled_at : Stalls on pump before after input code → Halts on pump before after input code
  failed_at : Fails on pump after input (λ reply. Breaks before.sinks after.sinks (written_of reply)) → code ≡ status.WriteFault
      → Halts on pump before after input code
  wanting_at : Fails on pump after input (λ reply. after.sinks ≡ before.sinks) → code ≡ status.NoMemory → Halts on pump before after input code

-- the status is that of a run that nothing outside cut short
abbrev pub IsReported : Status → Type 0
IsReported status.Done = ⊤
IsReported status.SomeRefused = ⊤
IsReported status.Usage = ⊤
IsReported status.SchemaRefused = ⊤
IsReported status.MapRefused = ⊤
IsReported status.FramingRefused = ⊤
IsReported status.InputLimit = ⊤
IsReported status.NoFile = ⊤
IsReported status.FileFault = ⊥
IsReported status.ReadFault = ⊥
IsReported status.WriteFault = ⊥
IsReported status.NoMemory = ⊥

-- the status is one that a step may end with
abbrev pub IsStepStatus : Status → Type 0
IsStepStatus status.Done = ⊤
IsStepStatus status.SomeRefused = ⊤
IsStepStatus status.FramingRefused = ⊤
IsStepStatus status.ReadFault = ⊤
IsStepStatus status.WriteFault = ⊤
IsStepStatus status.NoMemory = ⊤
IsStepStatus status.InputLimit = ⊤
IsStepStatus status.Usage = ⊥
IsStepStatus status.SchemaRefused = ⊥
IsStepStatus status.MapRefused = ⊥
IsStepStatus status.FileFault = ⊥
IsStepStatus status.NoFile = ⊥

-- a stream's fault is answered only if its count rose, and no count changed if a report is answered
pub record Causes (before after : Streams) (code : Status) : Type 0 where
  pub calm : IsReported code → Calm before after
  pub read : code ≡ status.ReadFault → Failed before.input after.input
  pub write : code ≡ status.WriteFault → Failed before.sinks.output after.sinks.output ⊎ Failed before.sinks.notes after.sinks.notes
  pub late : IsStepStatus code

-- a step that ends the pump
pub record Closes (on : Answering) (old new : Moment) (before after : Streams) (code : Status) : Type 0 where
  pub halts : (input : List ℕ) → Follows old.ahead before.input.told input → Halts on old before after input code
  pub causes : Causes before after code
  pub kept : new ≡ record { kept = old.kept; ahead = new.ahead; ended = Some code }
  -- a command that takes no memory is never out of it
  pub memory : code ≡ status.NoMemory → on.spares ≡ false
  pub unread : is_read on.reading ≡ false → after.input ≡ before.input

-- The streams before and after a step.
pub record Passage : Type 0 where
  pub before : Streams
  pub after : Streams

-- The streams before and after, as one record.
abbrev pub passage : Streams → Streams → Passage
passage before after = record { before = before; after = after }

-- A piece is answered, or the pump ends; a pump that has ended gives the same answer again, and changes nothing.
abbrev pub Steps : Answering → Moment → Moment → Passage → Step → Type 0
Steps on old new streams Went = (old.ended ≡ None) × Goes on old new streams.before streams.after
Steps on old new streams (Ended code) =
    ((old.ended ≡ Some code) × (new ≡ old) × (streams.after ≡ streams.before))
    ⊎ ((old.ended ≡ None) × Closes on old new streams.before streams.after code)

-- ---- many steps

-- These pieces of the input were taken and answered, and the numbers count them.
pub record Progress (on : Answering) (pump : Moment) (old now : Streams) (input : List ℕ) : Type 0 where
  pub pieces : List Piece
  pub left : List ℕ
  pub written : Written
  pub source : Follows pump.ahead now.input.told left
  pub begins : Reaches pump.ahead on.reading input pieces left
  pub replies : Replies on none_kept pieces written pump.kept
  pub wrote : Wrote old.sinks now.sinks written

-- how far a job has got, and how it then ends
pub record Course (on : Answering) (old new : Streams) (input : List ℕ) (code : Status) : Type 0 where
  pub kept : Kept
  pub ahead : Ahead
  pub mid : Streams
  pub progress : Progress on (running kept ahead) old mid input
  pub calm : Calm old mid
  pub halts : Halts on (running kept ahead) mid new progress.left code

-- a job that is done to its end
pub record Drains (on : Answering) (old new : Streams) (code : Status) : Type 0 where
  pub course : (input : List ℕ) → old.input.told ≡ Some input → Course on old new input code
  pub causes : Causes old new code
  pub memory : code ≡ status.NoMemory → on.spares ≡ false
  pub unread : is_read on.reading ≡ false → new.input ≡ old.input

-- a piece was answered, with these numbers for it, or the steps end with this status; `ahead` is known of the input
-- after that
abbrev pub Answers : Answering → Moment → Ahead → Streams → Streams → Result Tally Status → Type 0
Answers on pump ahead before after (Ok tally) = Goes on pump (running (counted_by pump.kept tally.bytes tally.verdict) ahead) before after
Answers on pump ahead before after (Err code) = Closes on pump (record { kept = pump.kept; ahead = ahead; ended = Some code }) before after code
