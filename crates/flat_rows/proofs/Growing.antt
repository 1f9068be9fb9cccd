-- Tables as they grow.
use Rattle.std.proofs.Common.{◌≡◌, List, [], ◌∷◌, ◌++◌, map, refl, sym, ap, ◌∙◌, subst, append_assoc}
use Rattle.std.proofs.lemmas.List.{append-nil}
use Rattle.std.specs.List.{AllByRecursion}
use Rattle.flat_rows.specs.declared.rows.FlatRow.{FlatRow}
use Rattle.flat_rows.specs.declared.rows.FlatRows.{FlatRows}
use Rattle.flat_rows.specs.Scalars.{Scalar}
use Rattle.flat_rows.specs.Tables.{scalar_of, stands_for, IsRow, IsTable, Grows}

rows_more : (rows : List FlatRow) (r : FlatRow) → AllByRecursion IsRow rows → IsRow r → AllByRecursion IsRow (rows ++ r ∷ [])
rows_more [] r h row = (row, tt)
rows_more (x ∷ rows) r h row = (h.0, rows_more rows r h.1 row)

values_more : (rows : List FlatRow) (r : FlatRow) → map scalar_of (rows ++ r ∷ []) ≡ map scalar_of rows ++ scalar_of r ∷ []
values_more [] r = refl
values_more (x ∷ rows) r = ap (λ ss. scalar_of x ∷ ss) (values_more rows r)

-- a row was added
pub row_added : (old new : FlatRows) (r : FlatRow) → new.rows.items ≡ old.rows.items ++ r ∷ [] → IsRow r → Grows old new (scalar_of r ∷ [])
row_added old new r rows row = record {
  table = λ h. subst (AllByRecursion IsRow) (sym rows) (rows_more old.rows.items r h row);
  grown = ap (map scalar_of) rows ∙ values_more old.rows.items r;
}

-- nothing was added
pub none_added : {a : FlatRows} → Grows a a []
none_added {a} = record { table = λ h. h; grown = sym (append-nil (stands_for a)) }

-- one after another
pub grows_then : {a b c : FlatRows} {ss ts : List Scalar} → Grows a b ss → Grows b c ts → Grows a c (ss ++ ts)
grows_then {a} {b} {c} {ss} {ts} h k = record {
  table = λ is. k.table (h.table is);
  grown = k.grown ∙ ap (λ l. l ++ ts) h.grown ∙ append_assoc (stands_for a) ss ts;
}

pub regrown : {a b : FlatRows} {ss ts : List Scalar} → ss ≡ ts → Grows a b ss → Grows a b ts
regrown {a} {b} same h = subst (Grows a b) same h

-- ---- loops

-- the values of all parts: those before the rest were added
pub record GoesOn (start now : FlatRows) (rest all : List Scalar) : Type 0 where
  pub added : List Scalar
  pub grows : Grows start now added
  pub whole : added ++ rest ≡ all

pub goes_first : {a : FlatRows} (all : List Scalar) → GoesOn a a all all
goes_first {a} all = record { added = []; grows = none_added; whole = refl }

-- the values of one part more
pub goes_next : {a b c : FlatRows} (part rest before all : List Scalar) → before ≡ part ++ rest → GoesOn a b before all → Grows b c part → GoesOn a c rest all
goes_next {a} {b} {c} part rest before all is on v = record {
  added = on.added ++ part;
  grows = grows_then on.grows v;
  whole = append_assoc on.added part rest ∙ ap (λ l. on.added ++ l) (sym is) ∙ on.whole;
}

-- what is left, in another form
pub still_goes : {a b : FlatRows} {rest other all : List Scalar} → rest ≡ other → GoesOn a b rest all → GoesOn a b other all
still_goes {a} {b} {rest} {other} {all} same h = subst (λ l. GoesOn a b l all) same h

-- all are added
pub goes_over : {a b : FlatRows} (rest all : List Scalar) → rest ≡ [] → GoesOn a b rest all → Grows a b all
goes_over {a} {b} rest all is on = regrown (sym (append-nil on.added) ∙ ap (λ l. on.added ++ l) (sym is) ∙ on.whole) on.grows

-- a table from its first value on
pub from_nothing : (start now : FlatRows) (all : List Scalar) → start.rows.items ≡ [] → Grows start now all → stands_for now ≡ all
from_nothing start now all rows h = h.grown ∙ ap (λ rs. map scalar_of rs ++ all) rows

pub is_table : (start now : FlatRows) (all : List Scalar) → start.rows.items ≡ [] → Grows start now all → IsTable now
is_table start now all rows h = h.table (subst (AllByRecursion IsRow) (sym rows) tt)
