-- A stream of frames, cut at their heads. From SOFH 1.0, Framing header; the limits and the ends are own profile.
use Rattle.std.specs.Prelude.{◌≡◌, ℕ, ◌+◌, ◌^◌, ◌<◌, ◌≤◌, nat_le, nat_lt, Bool, true, false, IsTrue, if◌then◌else◌, Result, Ok, Err, Option, Some, None, List, [], ◌∷◌, ◌++◌, length, take, drop}
use Rattle.open_framing.specs.declared.head.TheConstants.{HEAD_BYTES}
use Rattle.open_framing.specs.declared.head.Head.{Head}
use Rattle.open_framing.specs.declared.head.HeadErr.{HeadErr}
use Rattle.open_framing.specs.declared.head.HeadErr.TheVariants.{HeadShort, LengthShort, LengthOver, Encoding}
use Rattle.byte_digits.specs.Digits.{digits_high_first}
use Rattle.open_framing.specs.Heads.{head_of, is_encoding}
use Rattle.open_framing.specs.Pieces.{Pieces, pieces_in, rest_of}

-- Message_Length, which counts the six bytes of the head too, Encoding_Type, and the body
abbrev pub frame : ℕ → List ℕ → List ℕ
frame encoding body = digits_high_first 4 (length body + HEAD_BYTES) ++ digits_high_first 2 encoding ++ body

-- what a frame carries
pub record Item : Type 0 where
  pub encoding : ℕ
  pub body : List ℕ

-- the bytes of an item's frame
abbrev pub frame_of : Item → List ℕ
frame_of item = frame item.encoding item.body

-- The length of the frame fits the head and the limit, and its encoding type is one of the three.
pub record IsFrame (limit : ℕ) (item : Item) : Type 0 where
  pub fits : length item.body + HEAD_BYTES < 256 ^ 4
  pub within : length item.body + HEAD_BYTES ≤ limit
  pub known : IsTrue (is_encoding item.encoding)

-- how a cut ends: with nothing left, inside a frame of which this many bytes are there, at a faulty head, or at the
-- limit of the input
pub data CutEnd : Type 0 where
  End : CutEnd
  EndInside : ℕ → CutEnd
  HeadFault : HeadErr → CutEnd
  InputLimit : CutEnd

-- the end where the rest has no faulty head, by whether the stream goes on
abbrev pub end_inside : Bool → List ℕ → CutEnd
end_inside true rest = InputLimit
end_inside false [] = End
end_inside false (b ∷ rest) = EndInside (length (b ∷ rest))

-- the end by the head at the front of the rest; a head that is cut short is not a fault
abbrev pub end_by : Result Head HeadErr → Bool → List ℕ → CutEnd
end_by (Ok head) goes_on rest = end_inside goes_on rest
end_by (Err HeadShort) goes_on rest = end_inside goes_on rest
end_by (Err (LengthShort n)) goes_on rest = HeadFault (LengthShort n)
end_by (Err (LengthOver n)) goes_on rest = HeadFault (LengthOver n)
end_by (Err (Encoding n)) goes_on rest = HeadFault (Encoding n)

-- the end of a cut that leaves this rest
abbrev pub end_of : ℕ → Bool → List ℕ → CutEnd
end_of limit goes_on rest = end_by (head_of rest limit) goes_on rest

-- The first `input` bytes of the stream are the frames of these items, as many as there are, and a rest, at which the
-- cut has this end.
pub record Cut (stream : List ℕ) (limit input : ℕ) (items : List Item) (end : CutEnd) : Type 0 where
  pub rest : List ℕ
  pub pieces : Pieces (IsFrame limit) frame_of (take input stream) items rest
  pub ends : end ≡ end_of limit (nat_lt input (length stream)) rest

-- the item of a frame with this head, if all of its bytes are there
abbrev pub item_by : List ℕ → Result Head HeadErr → Option Item
item_by bytes (Err fault) = None
item_by bytes (Ok head) = if nat_le head.length (length bytes) then Some (record { encoding = head.encoding; body = drop HEAD_BYTES (take head.length bytes) }) else None

-- the item of the frame at the front of the bytes
abbrev pub first_item : ℕ → List ℕ → Option Item
first_item limit bytes = item_by bytes (head_of bytes limit)

-- the items that a cut finds
unfoldable pub items_of : ℕ → List ℕ → List Item
items_of limit bytes = pieces_in (first_item limit) frame_of (length bytes) bytes

-- the items and the end of a cut
unfoldable pub cut_of : List ℕ → ℕ → ℕ → List Item × CutEnd
cut_of stream limit input =
    let bytes = take input stream in
    let items = items_of limit bytes in
    (items, end_of limit (nat_lt input (length stream)) (rest_of frame_of bytes items))
