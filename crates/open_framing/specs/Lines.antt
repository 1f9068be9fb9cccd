-- A stream of lines. Own profile.
use Rattle.std.specs.Prelude.{◌≡◌, ◌≢◌, ℕ, ◌≤◌, nat_le, nat_lt, ◌==◌, Bool, if◌then◌else◌, Option, Some, None, List, [], ◌∷◌, ◌++◌, length, take}
use Rattle.std.specs.List.{AllByRecursion}
use Rattle.open_framing.specs.declared.line.TheConstants.{LONGEST_LINE, LINE_END}
use Rattle.open_framing.specs.Pieces.{Pieces, pieces_in, rest_of}

-- the most bytes of a line
abbrev pub longest_line : ℕ
longest_line = LONGEST_LINE

-- the byte after a line
abbrev pub line_end : ℕ
line_end = LINE_END

-- a line and the byte after it
abbrev pub ended : List ℕ → List ℕ
ended line = line ++ line_end ∷ []

-- The line is within the limit, and doesn't contain a line end.
pub record IsLine (line : List ℕ) : Type 0 where
  pub within : length line ≤ longest_line
  pub plain : AllByRecursion (λ b. b ≢ line_end) line

-- how a stream of lines ends: with all read, at a line over the limit, or at the limit of the input
pub data LineEnd : Type 0 where
  End : LineEnd
  LineOver : LineEnd
  InputLimit : LineEnd

-- the line without a line end that the rest is, if any, and the end, by whether the stream goes on
abbrev pub last_of : Bool → List ℕ → List (List ℕ) × LineEnd
last_of goes_on rest =
    if nat_lt longest_line (length rest) then ([], LineOver)
    else if goes_on then ([], InputLimit)
    else if length rest == 0 then ([], End)
    else (rest ∷ [], End)

-- The first `input` bytes of the stream are ended lines, as many as there are, and a rest. The lines are these and the
-- one that the rest gives, if any.
pub record Lines (stream : List ℕ) (input : ℕ) (lines : List (List ℕ)) (end : LineEnd) : Type 0 where
  pub before : List (List ℕ)
  pub rest : List ℕ
  pub pieces : Pieces IsLine ended (take input stream) before rest
  pub all : lines ≡ before ++ (last_of (nat_lt input (length stream)) rest).0
  pub ends : end ≡ (last_of (nat_lt input (length stream)) rest).1

-- one more byte at the front of a line
abbrev pub with_byte : ℕ → Option (List ℕ) → Option (List ℕ)
with_byte b None = None
with_byte b (Some line) = Some (b ∷ line)

-- the bytes before the first line end, if there is one
abbrev pub before_end : List ℕ → Option (List ℕ)
before_end [] = None
before_end (b ∷ bytes) = if b == line_end then Some [] else with_byte b (before_end bytes)

-- the line, if it is within the limit
abbrev pub if_within : Option (List ℕ) → Option (List ℕ)
if_within None = None
if_within (Some line) = if nat_le (length line) longest_line then Some line else None

-- the ended line at the front of the bytes
abbrev pub first_line : List ℕ → Option (List ℕ)
first_line bytes = if_within (before_end bytes)

-- the ended lines that a cut finds
unfoldable pub ended_lines_of : List ℕ → List (List ℕ)
ended_lines_of bytes = pieces_in first_line ended (length bytes) bytes

-- the lines of a stream and its end
unfoldable pub lines_of : List ℕ → ℕ → List (List ℕ) × LineEnd
lines_of stream input =
    let bytes = take input stream in
    let before = ended_lines_of bytes in
    let last = last_of (nat_lt input (length stream)) (rest_of ended bytes before) in
    (before ++ last.0, last.1)
