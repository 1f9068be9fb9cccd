-- Rows whose bytes show values.
use Rattle.std.proofs.Common.{◌≡◌, ◌<◌, ◌+◌, ◌-◌, ℕ, zero, suc, Bool, List, [], ◌∷◌, length, take, drop, get_or, map, sym, ap, subst, arith}
use Rattle.std.specs.List.{AllByRecursion}
use Rattle.sbe_types.specs.declared.kind.Order.TheVariants.{Little}
use Rattle.sbe_types.specs.Places.{width}
use Rattle.flat_rows.specs.declared.rows.FlatRow.{FlatRow}
use Rattle.flat_rows.specs.BlockChecks.{bytes_there, ScalarsShow, ShowsSome}
use Rattle.flat_rows.specs.Tables.{scalar_of}

-- each row's bytes show a value
abbrev pub RowsShow : Bool → List ℕ → List FlatRow → Type 0
RowsShow known block rows = AllByRecursion (λ (r : FlatRow). ShowsSome Little known r.kind (bytes_there r.kind r.place block)) rows

pub rows_values : (known : Bool) (block : List ℕ) (rows : List FlatRow) → RowsShow known block rows → ScalarsShow Little known (map scalar_of rows) block
rows_values known block [] h = tt
rows_values known block (r ∷ rs) h = (h.0, rows_values known block rs h.1)

-- the rows from a place on, with the row there
pub there : {X : Type 0} (xs : List X) (i : ℕ) (x : X) → i < length xs → x ≡ get_or xs i x → drop i xs ≡ x ∷ drop (i + 1) xs
there [] i x h is = absurd (omega arith)
there (y ∷ xs) zero x h is = ap (λ z. z ∷ xs) (sym is)
there (y ∷ xs) (suc i) x h is =
    let next : suc i + 1 ≡ suc (i + 1) = omega arith in
    rw next (there xs i x (omega arith) is)

pub first_of : {X : Type 0} (P : X → Type 0) (xs : List X) (i : ℕ) (x : X) → i < length xs → x ≡ get_or xs i x → AllByRecursion P (drop i xs) → P x × AllByRecursion P (drop (i + 1) xs)
first_of P xs i x h is all = subst (AllByRecursion P) (there xs i x h is) all

-- the bytes of a row, by where they end
pub row_bytes : (row : FlatRow) (block bytes : List ℕ) → row.end ≡ row.place + width row.kind → bytes ≡ take (row.end - row.place) (drop row.place block) → bytes ≡ bytes_there row.kind row.place block
row_bytes row block bytes ends is =
    let wide : row.end - row.place ≡ width row.kind = omega (arith, ends) in
    subst (λ w. bytes ≡ take w (drop row.place block)) wide is
