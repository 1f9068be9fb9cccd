-- What a command takes from its input, piece by piece.
use Rattle.command_steps.specs.Ahead.{Ahead, none_ahead}
use Rattle.std.specs.Prelude.{◌≡◌, ◌≤◌, ◌⊎◌, ℕ, ◌+◌, ◌-◌, nat_lt, Bool, true, false, List, [], ◌∷◌, ◌++◌, length, map, ⊤}
use Rattle.std.specs.List.{AllByRecursion}
use Rattle.sbe_base.specs.declared.status.Limits.{Limits}
use Rattle.open_framing.specs.declared.head.HeadErr.{HeadErr}
use Rattle.open_framing.specs.Heads.{IsBytes}
use Rattle.open_framing.specs.Pieces.{Pieces, concat_pieces}
use Rattle.open_framing.specs.Frames.{Item, frame_of, IsFrame, Cut, CutEnd}
use Rattle.open_framing.specs.Frames as frames
use Rattle.open_framing.specs.Lines.{IsLine, LineEnd}
use Rattle.open_framing.specs.Lines as lines

-- one piece to answer: a frame's item, a line without its end and whether that end is there, the one job of a command
-- that reads nothing, or other bytes and a number for their kind
pub data Piece : Type 0 where
  Frame : Item → Piece
  Line : List ℕ → Bool → Piece
  Whole : Piece
  Other : List ℕ → ℕ → Piece

-- a line's bytes in the input, with its end, which the last line may lack
abbrev pub line_bytes : List ℕ → Bool → List ℕ
line_bytes line true = lines.ended line
line_bytes line false = line

-- a piece's bytes in the input
abbrev pub piece_bytes : Piece → List ℕ
piece_bytes (Frame item) = frame_of item
piece_bytes (Line line has_end) = line_bytes line has_end
piece_bytes Whole = []
piece_bytes (Other bytes kind) = bytes

-- how the pieces end: with nothing left, inside a frame of which this many bytes are there, at a faulty head or line,
-- or at the limit
pub data PieceEnd : Type 0 where
  End : PieceEnd
  EndInside : ℕ → PieceEnd
  HeadFault : HeadErr → PieceEnd
  LineOver : PieceEnd
  InputLimit : PieceEnd

-- The end of frames as an end of pieces.
abbrev pub frames_end : CutEnd → PieceEnd
frames_end frames.End = End
frames_end (frames.EndInside n) = EndInside n
frames_end (frames.HeadFault fault) = HeadFault fault
frames_end frames.InputLimit = InputLimit

-- The end of lines as an end of pieces.
abbrev pub lines_end : LineEnd → PieceEnd
lines_end lines.End = End
lines_end lines.LineOver = LineOver
lines_end lines.InputLimit = InputLimit

-- ---- how an input is read

-- Another way to split an input, within its first n bytes: all its pieces and their end; pieces at its front, as what
-- was taken shows, and the rest; the pieces that are whole in bytes, whatever follows, after which no further one is
-- whole; which pieces there may be.
pub record OtherReading : Type 1 where
  pub Splits : ℕ → List ℕ → List Piece → PieceEnd → Type 0
  pub Begins : ℕ → Ahead → List ℕ → List Piece → List ℕ → Type 0
  pub Holds : List ℕ → List Piece → Type 0
  pub Suits : Piece → Type 0

-- how many bytes pieces have
abbrev pub taken_by : List Piece → ℕ
taken_by pieces = length (concat_pieces piece_bytes pieces)

-- the second bytes begin with the first
abbrev pub Front : List ℕ → List ℕ → Type 0
Front seen bytes = (more : List ℕ) × (bytes ≡ seen ++ more)

-- What holds of every such reading: an input is split in exactly one way, and pieces at its front are the first of all,
-- and continue piece by piece. What was taken of the input after pieces is also taken after more of them, and if it was
-- all, it stays all.
pub record IsReading (reading : OtherReading) : Type 0 where
  pub once : (n : ℕ) (stream : List ℕ) (xs ys : List Piece) (a b : PieceEnd)
      → reading.Splits n stream xs a → reading.Splits n stream ys b → (xs ≡ ys) × (a ≡ b)
  pub some : (n : ℕ) (stream : List ℕ) → IsBytes stream → (pieces : List Piece) × (end : PieceEnd) × reading.Splits n stream pieces end
  pub suits : (n : ℕ) (stream : List ℕ) (pieces : List Piece) (end : PieceEnd)
      → reading.Splits n stream pieces end → AllByRecursion reading.Suits pieces
  pub none : (n : ℕ) (stream : List ℕ) → reading.Begins n none_ahead stream [] stream
  pub first : (n : ℕ) (ahead : Ahead) (stream : List ℕ) (xs ys : List Piece) (rest : List ℕ) (end : PieceEnd)
      → reading.Begins n ahead stream xs rest → reading.Splits n stream ys end → (tail : List Piece) × (ys ≡ xs ++ tail)
  pub more : (n : ℕ) (ahead next : Ahead) (stream mid rest : List ℕ) (xs ys : List Piece)
      → reading.Begins n ahead stream xs mid → reading.Begins (n - taken_by xs) next mid ys rest
      → Front ahead.held (concat_pieces piece_bytes ys ++ next.held) → (ahead.is_all ≡ true → next.is_all ≡ true)
      → reading.Begins n next stream (xs ++ ys) rest
  pub all : (n : ℕ) (ahead : Ahead) (stream rest : List ℕ) (xs ys : List Piece) (end : PieceEnd)
      → reading.Begins n ahead stream xs rest → reading.Splits (n - taken_by xs) rest ys end → reading.Splits n stream (xs ++ ys) end
  pub held : (n : ℕ) (ahead : Ahead) (stream held left : List ℕ) (xs : List Piece)
      → reading.Begins n ahead stream xs (held ++ left) → Front ahead.held held → ahead.is_all ≡ false → reading.Holds held []
      → reading.Holds (concat_pieces piece_bytes xs ++ held) xs × (stream ≡ (concat_pieces piece_bytes xs ++ held) ++ left)
  pub ended : (n : ℕ) (end : PieceEnd) → reading.Splits n [] [] end → end ≡ End

-- how an input is read: frames within limits, lines with a limit for all bytes, not at all with one job to do, not at
-- all with none, or in another way with a limit for all bytes
pub data Reading : Type 1 where
  Frames : Limits → Reading
  Lines : ℕ → Reading
  Once : Reading
  Nothing : Reading
  Others : (reading : OtherReading) → IsReading reading → ℕ → Reading

-- the most bytes that are taken
abbrev pub most_taken : Reading → ℕ
most_taken (Frames limits) = limits.input
most_taken (Lines input) = input
most_taken Once = 0
most_taken Nothing = 0
most_taken (Others reading laws input) = input

-- the pieces are taken from the input
abbrev pub is_read : Reading → Bool
is_read (Frames limits) = true
is_read (Lines input) = true
is_read Once = false
is_read Nothing = false
is_read (Others reading laws input) = true

-- the most pieces that there can be: each has a byte, or there is one in all
abbrev pub most_pieces : Reading → ℕ
most_pieces (Frames limits) = limits.input
most_pieces (Lines input) = input
most_pieces Once = 1
most_pieces Nothing = 0
most_pieces (Others reading laws input) = input

-- whether a piece is a frame
abbrev pub is_framed : Reading → Bool
is_framed (Frames limits) = true
is_framed (Lines input) = false
is_framed Once = false
is_framed Nothing = false
is_framed (Others reading laws input) = false

-- a line whose end is there
abbrev pub ended_piece : List ℕ → Piece
ended_piece line = Line line true

-- the lines at the front of `count` bytes as pieces: a line has its end if one more byte is there
abbrev pub line_pieces : ℕ → List (List ℕ) → List Piece
line_pieces count [] = []
line_pieces count (line ∷ all) = Line line (nat_lt (length line) count) ∷ line_pieces (count - (length line + 1)) all

-- The input is these pieces, as many as there are, and has this end.
abbrev pub Splits : Reading → List ℕ → List Piece → PieceEnd → Type 0
Splits (Frames limits) stream pieces end =
    (items : List Item) × (cut : CutEnd) × Cut stream limits.frame limits.input items cut × (pieces ≡ map Frame items) × (end ≡ frames_end cut)
Splits (Lines input) stream pieces end =
    (all : List (List ℕ)) × (cut : LineEnd) × lines.Lines stream input all cut × (pieces ≡ line_pieces (length stream) all) × (end ≡ lines_end cut)
Splits Once stream pieces end = (pieces ≡ Whole ∷ []) × (end ≡ End)
Splits Nothing stream pieces end = (pieces ≡ []) × (end ≡ End)
Splits (Others reading laws input) stream pieces end = reading.Splits input stream pieces end

-- the bytes are those of these items and then the rest
pub record Leads {X : Type 0} (IsItem : X → Type 0) (bytes_of : X → List ℕ) (bytes : List ℕ) (items : List X) (rest : List ℕ) : Type 0 where
  pub whole : bytes ≡ concat_pieces bytes_of items ++ rest
  pub each : AllByRecursion IsItem items

-- The input begins with these pieces, which are within the limits, and the rest follows them. Frames and lines are
-- determined by their own bytes; with another reading, what was taken ahead shows its pieces.
abbrev pub Begins : Reading → Ahead → List ℕ → List Piece → List ℕ → Type 0
Begins (Frames limits) ahead stream pieces rest =
    (items : List Item) × Leads (IsFrame limits.frame) frame_of stream items rest
    × (length (concat_pieces frame_of items) ≤ limits.input) × (pieces ≡ map Frame items)
Begins (Lines input) ahead stream pieces rest =
    (all : List (List ℕ)) × Leads IsLine lines.ended stream all rest × (length (concat_pieces lines.ended all) ≤ input) × (pieces ≡ map ended_piece all)
Begins Once ahead stream pieces rest = ((pieces ≡ []) ⊎ (pieces ≡ Whole ∷ [])) × (rest ≡ stream)
Begins Nothing ahead stream pieces rest = (pieces ≡ []) × (rest ≡ stream)
Begins (Others reading laws input) ahead stream pieces rest = reading.Begins input ahead stream pieces rest

-- The bytes begin with what was taken of the input. Frames and lines don't require it.
abbrev pub Keeps : Reading → List ℕ → List ℕ → Type 0
Keeps (Frames limits) seen bytes = ⊤
Keeps (Lines input) seen bytes = ⊤
Keeps Once seen bytes = ⊤
Keeps Nothing seen bytes = ⊤
Keeps (Others reading laws input) seen bytes = Front seen bytes

-- These pieces are whole in the bytes, and no further one is.
abbrev pub Holds : Reading → List ℕ → List Piece → Type 0
Holds (Frames limits) bytes pieces =
    (items : List Item) × (rest : List ℕ) × Pieces (IsFrame limits.frame) frame_of bytes items rest × (pieces ≡ map Frame items)
Holds (Lines input) bytes pieces = (all : List (List ℕ)) × (rest : List ℕ) × Pieces IsLine lines.ended bytes all rest × (pieces ≡ map ended_piece all)
Holds Once bytes pieces = ⊥
Holds Nothing bytes pieces = ⊥
Holds (Others reading laws input) bytes pieces = reading.Holds bytes pieces
