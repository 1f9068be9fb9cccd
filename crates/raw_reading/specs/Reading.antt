-- A stream of tag-value texts without heads, as the pieces that a command takes. Own profile.
use Rattle.std.specs.Prelude.{◌≡◌, ◌≤◌, ℕ, Bool, true, not, List, [], ◌++◌, length, map}
use Rattle.std.specs.List.{flat_map}
use Rattle.command_steps.specs.Ahead.{Ahead}
use Rattle.command_steps.specs.Splits.{OtherReading, Piece, Other, PieceEnd}
use Rattle.command_steps.specs.Splits as ends
use Rattle.raw_fix.specs.declared.code.PCode.TheVariants as code
use Rattle.raw_fix.specs.Turns.{InTurn}
use Rattle.raw_fix.specs.Raw.{Texts, Kind, Message, Garbled, Item, IsItem, item_bytes, RawEnd, End, InputLimit, Raw}

-- the kind of an item as a number
abbrev pub kind_number : Kind → ℕ
kind_number Message = 0
kind_number (Garbled code.Prefix) = 1
kind_number (Garbled code.Ends) = 2
kind_number (Garbled code.Text) = 3

-- An item as a piece.
abbrev pub piece_of : Item → Piece
piece_of item = Other item.bytes (kind_number item.kind)

-- The end of a stream as an end of pieces.
abbrev pub end_of : RawEnd → PieceEnd
end_of End = ends.End
end_of InputLimit = ends.InputLimit

-- The stream, within its first n bytes, is these pieces, and has this end.
abbrev pub SplitsRaw : Texts → ℕ → List ℕ → List Piece → PieceEnd → Type 0
SplitsRaw texts n stream pieces end =
    (items : List Item) × (last : RawEnd) × Raw texts stream n items last × (pieces ≡ map piece_of items) × (end ≡ end_of last)

-- the bytes of the items, concatenated
abbrev pub items_bytes : List Item → List ℕ
items_bytes items = flat_map item_bytes items

-- These bytes are those of the items, and then those that are held, in a stream that goes on after them, or that ends
-- with them.
abbrev pub Shows : Texts → Bool → List Item → List ℕ → Type 0
Shows texts is_all items held = InTurn (IsItem texts (not is_all)) item_bytes (items_bytes items ++ held) items held

-- a stream of which at most `most` bytes count, what was taken of it after some pieces, and everything that follows the
-- pieces
pub record Span : Type 0 where
  pub most : ℕ
  pub ahead : Ahead
  pub stream : List ℕ
  pub rest : List ℕ

-- The stream begins with these pieces: they are the items that the bytes taken show.
pub record BeginsRaw (texts : Texts) (span : Span) (pieces : List Piece) : Type 0 where
  pub items : List Item
  pub pieces_are : pieces ≡ map piece_of items
  pub whole : span.stream ≡ items_bytes items ++ span.rest
  pub left : List ℕ
  pub follows : span.rest ≡ span.ahead.held ++ left
  pub shows : Shows texts span.ahead.is_all items span.ahead.held
  pub within : length (items_bytes items ++ span.ahead.held) ≤ span.most
  pub all : span.ahead.is_all ≡ true → left ≡ []

-- These pieces are the items of a stream that goes on after the bytes, which settle no further item.
pub record HoldsRaw (texts : Texts) (bytes : List ℕ) (pieces : List Piece) : Type 0 where
  pub items : List Item
  pub pieces_are : pieces ≡ map piece_of items
  pub rest : List ℕ
  pub turns : InTurn (IsItem texts true) item_bytes bytes items rest
  pub none : (item : Item) → IsItem texts true rest item → ⊥

-- the piece is an item
abbrev pub SuitsRaw : Piece → Type 0
SuitsRaw piece = (item : Item) × (piece ≡ piece_of item)

-- How a stream of tag-value texts without heads is read.
abbrev pub raw_reading : Texts → OtherReading
raw_reading texts = record {
  Splits = SplitsRaw texts;
  Begins = λ n ahead stream pieces rest. BeginsRaw texts (record { most = n; ahead = ahead; stream = stream; rest = rest }) pieces;
  Holds = HoldsRaw texts;
  Suits = SuitsRaw;
}
