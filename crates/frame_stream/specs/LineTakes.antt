-- Lines taken one by one from a source. Own profile.
use Rattle.std.specs.Prelude.{◌≡◌, ◌<◌, ◌≤◌, ◌⊎◌, ℕ, ◌+◌, ◌-◌, Option, Some, None, Result, Ok, Err, List, [], ◌∷◌, ◌++◌, length, take, drop, ⊤}
use Rattle.sbe_base.specs.Causes.{Rose}
use Rattle.open_framing.specs.Lines.{IsLine, LineEnd, Lines, End, LineOver, InputLimit, before_end, ended, longest_line}
use Rattle.frame_stream.specs.Window.{HeldState}
use Rattle.frame_stream.specs.declared.lines.LineEnded.{LineEnded}
use Rattle.frame_stream.specs.declared.lines.LineEnded.TheVariants as line_ended
use Rattle.frame_stream.specs.declared.lines.LineTaken.{LineTaken}
use Rattle.frame_stream.specs.declared.lines.LineTaken.TheVariants as line
use Rattle.frame_stream.specs.declared.lines.LineErr.{LineErr}
use Rattle.frame_stream.specs.declared.lines.LineErr.TheVariants as line_err

-- the bytes held after the last line, the last line without its end, how many bytes were taken, the most bytes of the
-- input, and the end that stays, if it was reached
pub record LineState : Type 0 where
  pub held : List ℕ
  pub line : List ℕ
  pub taken : ℕ
  pub input : ℕ
  pub ended : Option LineEnded

-- the capacity for a line of the most bytes and its end
abbrev pub window_bytes : ℕ
window_bytes = longest_line + 1

-- the state that the held bytes show: the first `line` bytes are the line, and the first `front` bytes, with its end,
-- have been taken
abbrev pub lines_shown : ℕ → ℕ → HeldState → Option LineEnded → LineState
lines_shown line front h end = record { held = drop front h.bytes; line = take line h.bytes; taken = h.taken; input = h.limit; ended = end }

-- the line and its end are held, in a buffer with room for any line
pub record IsLineStream (line front : ℕ) (h : HeldState) : Type 0 where
  pub size : h.size ≡ window_bytes
  pub within : h.taken ≤ h.limit
  pub fits : length h.bytes ≤ h.size
  pub low : line ≤ front
  pub high : front ≤ length h.bytes

-- a stream of which nothing was taken
abbrev pub lines_opened : ℕ → LineState
lines_opened input = record { held = []; line = []; taken = 0; input = input; ended = None }

-- the most bytes that the stream may still have: the limit less the bytes of the lines taken before and their ends
abbrev pub line_room : LineState → ℕ
line_room s = s.input + length s.held - s.taken

-- the end of a line is one byte, which a last line lacks
abbrev pub end_bytes : Option LineEnded → ℕ
end_bytes None = 1
end_bytes (Some e) = 0

-- how many bytes the line and its end have
abbrev pub line_bytes : LineState → ℕ
line_bytes s = length s.line + end_bytes s.ended

-- the answer at an end
abbrev pub line_end_answer : LineEnded → Result LineTaken LineErr
line_end_answer line_ended.End = Ok line.End
line_end_answer line_ended.Over = Err line_err.LineOver
line_end_answer line_ended.Limit = Err line_err.InputLimit

-- the end of the lines of a stream that ends like this
abbrev pub lines_end : LineEnded → LineEnd
lines_end line_ended.End = End
lines_end line_ended.Over = LineOver
lines_end line_ended.Limit = InputLimit

-- a line and its end were taken, and the rest is left
pub record TakesEnded (stream : List ℕ) (old new : LineState) (left' : List ℕ) : Type 0 where
  pub line : IsLine new.line
  pub whole : stream ≡ ended new.line ++ (new.held ++ left')
  pub ended : new.ended ≡ None

-- all that was left is the last line, which lacks its end
pub record TakesLast (stream : List ℕ) (old new : LineState) (left' : List ℕ) : Type 0 where
  pub lines : Lines stream (line_room old) (new.line ∷ []) End
  pub whole : stream ≡ new.line
  pub held : new.held ≡ []
  pub left : left' ≡ []
  pub ended : new.ended ≡ Some line_ended.End

-- The stream is what was held after the last line and what the source had left. Its lines go on with this answer.
abbrev pub TakesLineBy : List ℕ → LineState → LineState → List ℕ → Result LineTaken LineErr → Type 0
TakesLineBy stream old new left' (Ok line.Line) = TakesEnded stream old new left' ⊎ TakesLast stream old new left'
TakesLineBy stream old new left' (Ok line.End) = Lines stream (line_room old) [] End × (stream ≡ new.held ++ left')
TakesLineBy stream old new left' (Err line_err.LineOver) = Lines stream (line_room old) [] LineOver × (stream ≡ new.held ++ left')
TakesLineBy stream old new left' (Err line_err.InputLimit) = Lines stream (line_room old) [] InputLimit × ((x : ℕ) × (stream ≡ new.held ++ x ∷ left'))
TakesLineBy stream old new left' (Err line_err.ReadFault) = stream ≡ new.held ++ left'

-- these lines are taken of the stream with their ends one after another, and the bytes left are not
abbrev pub TakesLines : List (List ℕ) → List ℕ → LineState → LineState → List ℕ → Type 0
TakesLines [] stream old new left = (stream ≡ left) × (new ≡ old)
TakesLines (line' ∷ lines) stream old new left =
    (next : LineState) × (left' : List ℕ) × TakesEnded stream old next left' × (line' ≡ next.line) × (line_room old ≡ line_bytes next + line_room next)
    × TakesLines lines (next.held ++ left') next new left

-- the answer by the bytes of the source if they are modelled, and any answer if not
abbrev pub TakesLineFrom : LineState → LineState → Option (List ℕ) → Option (List ℕ) → Result LineTaken LineErr → Type 0
TakesLineFrom old new None left' result = ⊤
TakesLineFrom old new (Some left) None result = ⊥
TakesLineFrom old new (Some left) (Some left') result = TakesLineBy (old.held ++ left) old new left' result

-- A line takes its bytes off the room, at least one, whether or not the source is modelled. No other answer changes the
-- room.
abbrev pub LineFalls : LineState → LineState → Result LineTaken LineErr → Type 0
LineFalls old new (Ok line.Line) = (line_room old ≡ line_bytes new + line_room new) × (0 < line_bytes new)
LineFalls old new (Ok line.End) = line_room new ≡ line_room old
LineFalls old new (Err e) = line_room new ≡ line_room old

-- what is held after the lines, as far as the answer gives it
abbrev pub LineHeldBy : LineState → Result LineTaken LineErr → Type 0
LineHeldBy new (Ok line.Line) = (new.ended ≡ None) ⊎ (new.held ≡ [])
LineHeldBy new (Ok line.End) = new.held ≡ []
LineHeldBy new (Err line_err.LineOver) = (before_end new.held ≡ None) × (length new.held ≡ window_bytes)
LineHeldBy new (Err line_err.InputLimit) = (before_end new.held ≡ None) × (new.taken ≡ new.input)
LineHeldBy new (Err line_err.ReadFault) = before_end new.held ≡ None

-- the end that stays after an answer: a line may be the last one
abbrev pub LineEndedBy : Option LineEnded → Result LineTaken LineErr → Type 0
LineEndedBy end (Ok line.Line) = (end ≡ None) ⊎ (end ≡ Some line_ended.End)
LineEndedBy end (Ok line.End) = end ≡ Some line_ended.End
LineEndedBy end (Err line_err.LineOver) = end ≡ Some line_ended.Over
LineEndedBy end (Err line_err.InputLimit) = end ≡ Some line_ended.Limit
LineEndedBy end (Err line_err.ReadFault) = end ≡ None

-- What holds whether or not the bytes of the source are modelled.
pub record TakesLine (old new : LineState) (left left' : Option (List ℕ)) (result : Result LineTaken LineErr) : Type 0 where
  pub from : TakesLineFrom old new left left' result
  pub falls : LineFalls old new result
  pub held : LineHeldBy new result
  pub ended : LineEndedBy new.ended result
  pub within : new.taken ≤ new.input
  pub input : new.input ≡ old.input

-- no line is lent where none was taken
abbrev pub LineOf : LineState → Result LineTaken LineErr → Type 0
LineOf new (Ok line.Line) = length new.line ≤ longest_line
LineOf new (Ok line.End) = new.line ≡ []
LineOf new (Err e) = new.line ≡ []

-- the rest is a line where it has a byte
abbrev pub IsLastTaken : ℕ → LineTaken → Type 0
IsLastTaken len line.Line = 0 < len
IsLastTaken len line.End = len ≡ 0

-- the count of faults rose at a read fault, and any other answer leaves it
abbrev pub LineCause : ℕ → ℕ → Result LineTaken LineErr → Type 0
LineCause before now (Ok x) = now ≡ before
LineCause before now (Err line_err.LineOver) = now ≡ before
LineCause before now (Err line_err.InputLimit) = now ≡ before
LineCause before now (Err line_err.ReadFault) = (before ≤ now) × Rose before now
