-- Tables of texts as they grow.
use Rattle.std.proofs.Common.{◌≡◌, ◌≤◌, ◌-◌, ◌+◌, ℕ, List, [], ◌∷◌, ◌++◌, length, map, take, drop, refl, sym, ap, ap₂, ◌∙◌, subst, arith, append_assoc, length-append, length-drop}
use Rattle.std.proofs.lemmas.List.{append-nil, take-append-le, drop-append-le, take_rest, drop_all}
use Rattle.sbe_types.specs.declared.kind.Kind.{Kind}
use Rattle.flat_rows.specs.Scalars.{Scalar, scalar_at}
use Rattle.flat_rows.specs.declared.rows.FlatRow.{FlatRow}
use Rattle.flat_rows.specs.Tables.{scalar_of, IsRow, RowsFit}
use Rattle.sbe_types.specs.Places.{width}
use Rattle.std.specs.List.{AllByRecursion}
use Rattle.json_rows.specs.declared.rows.TextRow.{TextRow}
use Rattle.json_rows.specs.declared.rows.TextRows.{TextRows}
use Rattle.json_rows.specs.Codes.{AreCodes}
use Rattle.json_rows.specs.Pieces.{Piece, literal, shown, Slot, MergedPieces, no_slots, with_piece, with_pieces, merged_pieces}
use Rattle.json_rows.specs.Tables.{slots_of, value_of, values_of, with_texts, scalars_in, AreTextRows, HasPieces, IsTextRow, IsTextTable, TextsFit, Grows}

abbrev slot : List ℕ → Kind → ℕ → Slot
slot before kind place = record { before = before; kind = kind; place = place }

-- ---- more bytes

rows_wider : (n m : ℕ) (ss : List Scalar) (rows : List TextRow) → n ≤ m → AreTextRows n ss rows → AreTextRows m ss rows
rows_wider n m [] [] more h = tt
rows_wider n m [] (r ∷ rs) more h = absurd h
rows_wider n m (s ∷ ss) [] more h = absurd h
rows_wider n m (s ∷ ss) (r ∷ rs) more h = (record { value = h.0.value; row = h.0.row; codes = h.0.codes; ordered = h.0.ordered; within = omega (arith, more, h.0.within) }, rows_wider n m ss rs more h.1)

slots_same : (bytes more : List ℕ) (ss : List Scalar) (rows : List TextRow) → AreTextRows (length bytes) ss rows → slots_of (bytes ++ more) ss rows ≡ slots_of bytes ss rows
slots_same bytes more [] [] h = refl
slots_same bytes more [] (r ∷ rs) h = absurd h
slots_same bytes more (s ∷ ss) [] h = absurd h
slots_same bytes more (s ∷ ss) (r ∷ rs) h =
    let before : take (r.end - r.start) (drop r.start (bytes ++ more)) ≡ take (r.end - r.start) (drop r.start bytes) =
    ap (take (r.end - r.start)) (drop-append-le r.start bytes more (omega (arith, h.0.ordered, h.0.within)))
    ∙ take-append-le (r.end - r.start) (drop r.start bytes) more (omega (arith, length-drop r.start bytes, h.0.within)) in
    ap₂ (λ l xs. slot l s.kind s.place ∷ xs) before (slots_same bytes more ss rs h.1)

-- ---- one more row

rows_more : (n : ℕ) (ss : List Scalar) (rows : List TextRow) (s : Scalar) (r : TextRow) → AreTextRows n ss rows → IsTextRow n s r → AreTextRows n (ss ++ s ∷ []) (rows ++ r ∷ [])
rows_more n [] [] s r h is = (is, tt)
rows_more n [] (x ∷ rows) s r h is = absurd h
rows_more n (t ∷ ss) [] s r h is = absurd h
rows_more n (t ∷ ss) (x ∷ rows) s r h is = (h.0, rows_more n ss rows s r h.1 is)

slots_more : (bytes : List ℕ) (ss : List Scalar) (rows : List TextRow) (s : Scalar) (r : TextRow) → AreTextRows (length bytes) ss rows → r.end ≡ length bytes →
    slots_of bytes (ss ++ s ∷ []) (rows ++ r ∷ []) ≡ slots_of bytes ss rows ++ slot (drop r.start bytes) s.kind s.place ∷ []
slots_more bytes [] [] s r h ends = ap (λ l. slot l s.kind s.place ∷ []) (ap (λ e. take (e - r.start) (drop r.start bytes)) ends ∙ take_rest bytes r.start)
slots_more bytes [] (x ∷ rows) s r h ends = absurd h
slots_more bytes (t ∷ ss) [] s r h ends = absurd h
slots_more bytes (t ∷ ss) (x ∷ rows) s r h ends =
    ap (λ xs. slot (take (x.end - x.start) (drop x.start bytes)) t.kind t.place ∷ xs) (slots_more bytes ss rows s r h.1 ends)

-- ---- tables

joined_is : (a b : List Slot) (x y : List ℕ) → a ≡ b → x ≡ y → ◌≡◌ {A = MergedPieces} (record { slots = a; last = x }) (record { slots = b; last = y })
joined_is a b x y h k = ap₂ (λ ss l. record { slots = ss; last = l }) h k

with_more : (j : MergedPieces) (ps qs : List Piece) → with_pieces j (ps ++ qs) ≡ with_pieces (with_pieces j ps) qs
with_more j [] qs = refl
with_more j (p ∷ ps) qs = with_more (with_piece j p) ps qs

literal_last : (ps : List Piece) (more : List ℕ) → scalars_in (ps ++ literal more ∷ []) ≡ scalars_in ps
literal_last [] more = refl
literal_last (literal bytes ∷ ps) more = literal_last ps more
literal_last (shown kind place ∷ ps) more = ap (λ ss. scalar_at kind place ∷ ss) (literal_last ps more)

shown_last : (ps : List Piece) (kind : Kind) (place : ℕ) → scalars_in (ps ++ shown kind place ∷ []) ≡ scalars_in ps ++ scalar_at kind place ∷ []
shown_last [] kind place = refl
shown_last (literal bytes ∷ ps) kind place = shown_last ps kind place
shown_last (shown k p ∷ ps) kind place = ap (λ ss. scalar_at k p ∷ ss) (shown_last ps kind place)

-- bytes were added
pub bytes_added : (old new : TextRows) (more : List ℕ) → new.bytes.items ≡ old.bytes.items ++ more → new.rows.items ≡ old.rows.items → new.last ≡ old.last → Grows old new (literal more ∷ [])
bytes_added old new more bytes rows last ps h =
    let ss = scalars_in ps in
    let long : length old.bytes.items ≤ length new.bytes.items = omega (arith, ap length bytes, length-append old.bytes.items more) in
    let same = literal_last ps more in
    let now : with_texts ss new ≡ with_piece (with_texts ss old) (literal more) =
    joined_is _ _ _ _
    (ap₂ (λ bs rs. slots_of bs ss rs) bytes rows ∙ slots_same old.bytes.items more ss old.rows.items h.table.rows)
    (ap₂ (λ n bs. drop n bs) last bytes ∙ drop-append-le old.last old.bytes.items more h.table.last) in
    record {
      table = record {
        rows = subst (λ xs. AreTextRows (length new.bytes.items) xs new.rows.items) (sym same)
            (subst (AreTextRows (length new.bytes.items) ss) (sym rows) (rows_wider (length old.bytes.items) (length new.bytes.items) ss old.rows.items long h.table.rows));
        last = omega (arith, last, long, h.table.last);
      };
      stands = ap (λ xs. with_texts xs new) same ∙ now ∙ ap (λ j. with_piece j (literal more)) h.stands ∙ sym (with_more no_slots ps (literal more ∷ []));
    }

-- a row was added, after all bytes
pub row_added : (old new : TextRows) (r : TextRow) (kind : Kind) (place : ℕ) → new.bytes.items ≡ old.bytes.items → new.rows.items ≡ old.rows.items ++ r ∷ [] → scalar_of r.value ≡ scalar_at kind place → IsRow r.value → AreCodes r.codes kind →
    r.start ≡ old.last → r.end ≡ length old.bytes.items → new.last ≡ r.end → Grows old new (shown kind place ∷ [])
row_added old new r kind place bytes rows value row codes starts ends last ps h =
    let ss = scalars_in ps in
    let s = scalar_at kind place in
    let more = shown_last ps kind place in
    let here : IsTextRow (length old.bytes.items) s r = record { value = value; row = row; codes = codes; ordered = omega (arith, starts, ends, h.table.last); within = omega (arith, ends) } in
    let now : with_texts (ss ++ s ∷ []) new ≡ with_piece (with_texts ss old) (shown kind place) =
    joined_is _ _ _ _
    (ap₂ (λ bs rs. slots_of bs (ss ++ s ∷ []) rs) bytes rows ∙ slots_more old.bytes.items ss old.rows.items s r h.table.rows ends
    ∙ ap (λ n. slots_of old.bytes.items ss old.rows.items ++ slot (drop n old.bytes.items) kind place ∷ []) starts)
    (drop_all new.last new.bytes.items (omega (arith, last, ends, ap length bytes))) in
    record {
      table = record {
        rows = subst (λ xs. AreTextRows (length new.bytes.items) xs new.rows.items) (sym more)
            (subst (λ bs. AreTextRows (length bs) (ss ++ s ∷ []) new.rows.items) (sym bytes)
            (subst (AreTextRows (length old.bytes.items) (ss ++ s ∷ [])) (sym rows) (rows_more (length old.bytes.items) ss old.rows.items s r h.table.rows here)));
        last = omega (arith, last, ends, ap length bytes);
      };
      stands = ap (λ xs. with_texts xs new) more ∙ now ∙ ap (λ j. with_piece j (shown kind place)) h.stands ∙ sym (with_more no_slots ps (shown kind place ∷ []));
    }

-- nothing was added
pub none_added : {a : TextRows} → Grows a a []
none_added {a} ps h = subst (λ qs. HasPieces qs a) (sym (append-nil ps)) h

-- one after another
pub grows_then : {a b c : TextRows} {ps qs : List Piece} → Grows a b ps → Grows b c qs → Grows a c (ps ++ qs)
grows_then {a} {b} {c} {ps} {qs} h k before is = subst (λ xs. HasPieces xs c) (append_assoc before ps qs) (k (before ++ ps) (h before is))

pub regrown : {a b : TextRows} {ps qs : List Piece} → ps ≡ qs → Grows a b ps → Grows a b qs
regrown {a} {b} same h = subst (Grows a b) same h

-- ---- loops

-- the pieces of all parts: those before the rest were added
pub record GoesOn (start now : TextRows) (rest all : List Piece) : Type 0 where
  pub added : List Piece
  pub grows : Grows start now added
  pub whole : added ++ rest ≡ all

pub goes_first : {a : TextRows} (all : List Piece) → GoesOn a a all all
goes_first {a} all = record { added = []; grows = none_added; whole = refl }

-- a key and a value more
pub goes_next : {a b c d : TextRows} (key : Piece) (ps rest before all : List Piece) → before ≡ key ∷ (ps ++ rest) → GoesOn a b before all → Grows b c (key ∷ []) → Grows c d ps → GoesOn a d rest all
goes_next {a} {b} {c} {d} key ps rest before all is on k v = record {
  added = (on.added ++ key ∷ []) ++ ps;
  grows = grows_then (grows_then on.grows k) v;
  whole = append_assoc (on.added ++ key ∷ []) ps rest ∙ append_assoc on.added (key ∷ []) (ps ++ rest) ∙ ap (λ l. on.added ++ l) (sym is) ∙ on.whole;
}

-- what is left, in another form
pub still_goes : {a b : TextRows} {rest other all : List Piece} → rest ≡ other → GoesOn a b rest all → GoesOn a b other all
still_goes {a} {b} {rest} {other} {all} same h = subst (λ l. GoesOn a b l all) same h

-- the last piece
pub goes_over : {a b c : TextRows} (last : Piece) (before all : List Piece) → before ≡ last ∷ [] → GoesOn a b before all → Grows b c (last ∷ []) → Grows a c all
goes_over {a} {b} {c} last before all is on k = regrown (ap (λ l. on.added ++ l) (sym is) ∙ on.whole) (grows_then on.grows k)

-- ---- a table from its first piece on

pub from_nothing : (start now : TextRows) (ps : List Piece) → start.bytes.items ≡ [] → start.rows.items ≡ [] → Grows start now ps → start.last ≡ 0 → HasPieces ps now
from_nothing start now ps bytes rows h last =
    h [] (record {
      table = record { rows = subst (AreTextRows (length start.bytes.items) []) (sym rows) tt; last = omega (arith, last) };
      stands = joined_is _ _ _ _ refl (ap₂ drop last bytes);
    })

-- ---- the values that the rows have

values_kept : (n : ℕ) (ss : List Scalar) (rows : List TextRow) → AreTextRows n ss rows → map value_of rows ≡ ss
values_kept n [] [] h = refl
values_kept n [] (r ∷ rs) h = absurd h
values_kept n (s ∷ ss) [] h = absurd h
values_kept n (s ∷ ss) (r ∷ rs) h = ap₂ (λ x xs. x ∷ xs) h.0.value (values_kept n ss rs h.1)

-- a table of pieces is one for its own values
pub own_table : (ps : List Piece) (t : TextRows) → HasPieces ps t → IsTextTable (values_of t) t
own_table ps t h = subst (λ ss. IsTextTable ss t) (sym (values_kept (length t.bytes.items) (scalars_in ps) t.rows.items h.table.rows)) h.table

pub own_joined : (ps : List Piece) (t : TextRows) → HasPieces ps t → with_texts (values_of t) t ≡ merged_pieces ps
own_joined ps t h = ap (λ ss. with_texts ss t) (values_kept (length t.bytes.items) (scalars_in ps) t.rows.items h.table.rows) ∙ h.stands

-- where the rows of the same values fit, those of a table do
pub fits_too : (k n : ℕ) (rows : List FlatRow) (texts : List TextRow) → AllByRecursion IsRow rows → RowsFit k rows → AreTextRows n (map scalar_of rows) texts → TextsFit k texts
fits_too k n [] [] are fit h = tt
fits_too k n [] (t ∷ ts) are fit h = absurd h
fits_too k n (r ∷ rs) [] are fit h = absurd h
fits_too k n (r ∷ rs) (t ∷ ts) are fit h =
    let same : t.value.place + width t.value.kind ≡ r.place + width r.kind = ap (λ (s : Scalar). s.place + width s.kind) h.0.value in
    (omega (arith, same, are.0.end, h.0.row.end, fit.0), fits_too k n rs ts are.1 fit.1 h.1)
