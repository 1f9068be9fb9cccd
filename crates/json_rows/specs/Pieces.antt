-- The fields of a block as pieces of the text of their object: what is the same in each message, and the values, each
-- at its offset in the block. Composites are flattened, so that only single numbers, texts, arrays, enums and sets are
-- left. Own profile.
use Rattle.std.specs.Prelude.{ℕ, ◌+◌, Bool, true, false, if◌then◌else◌, List, [], ◌∷◌, ◌++◌, codes}
use Rattle.sbe_types.specs.declared.kind.Kind.{Kind, Leaf, Enum, Set, Const, Comp', Row_of-Member, end_of-Member, more_of-Member}
use Rattle.sbe_types.specs.declared.schema.Field.{Field}
use Rattle.sbe_types.specs.Places.{width, is_const, begin_of, end_past}
use Rattle.json_rows.specs.Texts.{key_of, constant_text}

-- bytes that are the same in each message, or the value of a kind whose bytes begin at an offset of the block
pub data Piece : Type 0 where
  literal : List ℕ → Piece
  shown : Kind → ℕ → Piece

abbrev mutual
  -- the pieces of a value that begins at an offset of the block
  pub kind_pieces : Kind → ℕ → List Piece
  kind_pieces (Leaf l) at = shown (Leaf l) at ∷ []
  kind_pieces (Enum l names) at = shown (Enum l names) at ∷ []
  kind_pieces (Set p names) at = shown (Set p names) at ∷ []
  kind_pieces (Const c) at = literal (constant_text c) ∷ []
  kind_pieces (Comp' n members) at = literal (codes "{") ∷ member_pieces false at 0 members

  -- the pieces of the members of a composite that begins at offset `at`, after members that end at e, with the closing
  -- bracket
  pub member_pieces : Bool → ℕ → ℕ → {n : _} → Row_of-Member n → List Piece
  member_pieces later at e end_of-Member = literal (codes "}") ∷ []
  member_pieces later at e (more_of-Member name offset kind rest) =
      literal (key_of later name) ∷ (kind_pieces kind (at + begin_of e offset) ++ member_pieces true at (if is_const kind then e else begin_of e offset + width kind) rest)

-- the pieces of fields after fields that end at e, with the closing bracket; `later`: others precede them
abbrev pub field_pieces : Bool → ℕ → List Field → List Piece
field_pieces later e [] = literal (codes "}") ∷ []
field_pieces later e (f ∷ fs) = literal (key_of later f.name) ∷ (kind_pieces f.kind (begin_of e f.offset) ++ field_pieces true (end_past e f.offset f.kind) fs)

-- the pieces of the fields of a block, without the opening bracket
abbrev pub pieces_of : List Field → List Piece
pieces_of fields = field_pieces false 0 fields

-- the same between two texts that are the same in each message
abbrev pub pieces_between : List ℕ → List ℕ → List Field → List Piece
pieces_between before after fields = literal before ∷ (pieces_of fields ++ literal after ∷ [])

-- ---- with one literal before each value

-- a value, and everything between it and the value before it
pub record Slot : Type 0 where
  pub before : List ℕ
  pub kind : Kind
  pub place : ℕ

-- the values in order, and what follows the last one
pub record MergedPieces : Type 0 where
  pub slots : List Slot
  pub last : List ℕ

-- nothing yet
abbrev pub no_slots : MergedPieces
no_slots = record { slots = []; last = [] }

-- the pieces with one more
abbrev pub with_piece : MergedPieces → Piece → MergedPieces
with_piece j (literal bytes) = record { slots = j.slots; last = j.last ++ bytes }
with_piece j (shown kind place) = record { slots = j.slots ++ (record { before = j.last; kind = kind; place = place }) ∷ []; last = [] }

-- the pieces with more, in order
abbrev pub with_pieces : MergedPieces → List Piece → MergedPieces
with_pieces j [] = j
with_pieces j (p ∷ ps) = with_pieces (with_piece j p) ps

-- pieces with adjacent literals merged
abbrev pub merged_pieces : List Piece → MergedPieces
merged_pieces ps = with_pieces no_slots ps
