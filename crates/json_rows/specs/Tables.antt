-- What a table of texts contains besides the values of a block. Own profile.
use Rattle.std.specs.Prelude.{◌≡◌, ◌≤◌, ℕ, ◌-◌, List, [], ◌∷◌, ◌++◌, length, map, take, drop, ⊤}
use Rattle.std.specs.List.{AllByRecursion}
use Rattle.flat_rows.specs.Scalars.{Scalar, scalar_at}
use Rattle.flat_rows.specs.Tables.{scalar_of, IsRow}
use Rattle.json_rows.specs.declared.rows.TextRow.{TextRow}
use Rattle.json_rows.specs.declared.rows.TextRows.{TextRows}
use Rattle.json_rows.specs.Codes.{AreCodes}
use Rattle.json_rows.specs.Pieces.{Piece, literal, shown, Slot, MergedPieces, merged_pieces}

-- the value of a row
abbrev pub value_of : TextRow → Scalar
value_of r = scalar_of r.value

-- the values of a table
abbrev pub values_of : TextRows → List Scalar
values_of t = map value_of t.rows.items

-- values, each after the literal of its row
abbrev pub slots_of : List ℕ → List Scalar → List TextRow → List Slot
slots_of bytes [] rows = []
slots_of bytes (s ∷ ss) [] = []
slots_of bytes (s ∷ ss) (r ∷ rs) = (record { before = take (r.end - r.start) (drop r.start bytes); kind = s.kind; place = s.place }) ∷ slots_of bytes ss rs

-- the values with a table's literals between them
abbrev pub with_texts : List Scalar → TextRows → MergedPieces
with_texts scalars t = record { slots = slots_of t.bytes.items scalars t.rows.items; last = drop t.last t.bytes.items }

-- a row is that of a value, with the names of its kind, and its literal is within n bytes
pub record IsTextRow (n : ℕ) (s : Scalar) (r : TextRow) : Type 0 where
  pub value : value_of r ≡ s
  pub row : IsRow r.value
  pub codes : AreCodes r.codes s.kind
  pub ordered : r.start ≤ r.end
  pub within : r.end ≤ n

-- the rows are those of the values, one for each
abbrev pub AreTextRows : ℕ → List Scalar → List TextRow → Type 0
AreTextRows n [] [] = ⊤
AreTextRows n [] (r ∷ rs) = ⊥
AreTextRows n (s ∷ ss) [] = ⊥
AreTextRows n (s ∷ ss) (r ∷ rs) = IsTextRow n s r × AreTextRows n ss rs

-- the table is one for these values
pub record IsTextTable (scalars : List Scalar) (t : TextRows) : Type 0 where
  pub rows : AreTextRows (length t.bytes.items) scalars t.rows.items
  pub last : t.last ≤ length t.bytes.items

-- the bytes of each value are within a block of n bytes
abbrev pub TextsFit : ℕ → List TextRow → Type 0
TextsFit n rows = AllByRecursion (λ (r : TextRow). r.value.end ≤ n) rows

-- the values of pieces
abbrev pub scalars_in : List Piece → List Scalar
scalars_in [] = []
scalars_in (literal bytes ∷ ps) = scalars_in ps
scalars_in (shown kind place ∷ ps) = scalar_at kind place ∷ scalars_in ps

-- a table has the literals of these pieces, and is one for their values
pub record HasPieces (ps : List Piece) (t : TextRows) : Type 0 where
  pub table : IsTextTable (scalars_in ps) t
  pub stands : with_texts (scalars_in ps) t ≡ merged_pieces ps

-- a table grew by these pieces
abbrev pub Grows : TextRows → TextRows → List Piece → Type 0
Grows old new more = (ps : List Piece) → HasPieces ps old → HasPieces (ps ++ more) new
