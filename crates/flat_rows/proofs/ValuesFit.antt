-- The values of a block lie in the block.
use Rattle.std.proofs.Common.{◌≡◌, ◌≤◌, ◌+◌, ℕ, Bool, false, cond, List, [], ◌∷◌, ◌++◌, map, refl, sym, subst, arith}
use Rattle.std.specs.List.{AllByRecursion}
use Rattle.sbe_types.specs.declared.kind.Kind.{Kind, Leaf, Enum, Set, Const, Comp', Row_of-Member, end_of-Member, more_of-Member}
use Rattle.sbe_types.specs.declared.schema.Field.{Field}
use Rattle.sbe_types.specs.Places.{width, row_end, is_const, begin_of, end_past, fields_end}
use Rattle.sbe_wire.specs.Placed.{IsPlacedKind, IsPlacedRow, ArePlaced}
use Rattle.sbe_wire.specs.Versions.{floor}
use Rattle.sbe_wire.proofs.Values.{row_grows}
use Rattle.flat_rows.specs.declared.rows.FlatRow.{FlatRow}
use Rattle.flat_rows.specs.declared.rows.FlatRows.{FlatRows}
use Rattle.flat_rows.specs.Scalars.{Scalar, kind_scalars, member_scalars, field_scalars, scalars_of}
use Rattle.flat_rows.specs.BlockChecks.{AllAlive}
use Rattle.flat_rows.specs.Tables.{scalar_of, stands_for, IsRow, IsTable, RowsFit}
use Rattle.flat_rows.proofs.Inside.{fields_grow, floor_is}

-- each value's bytes lie in a block of n bytes
abbrev AllFit : ℕ → List Scalar → Type 0
AllFit n ss = AllByRecursion (λ (s : Scalar). s.place + width s.kind ≤ n) ss

module _ (n : ℕ) where
  both_fit : (ss ts : List Scalar) → AllFit n ss → AllFit n ts → AllFit n (ss ++ ts)
  both_fit [] ts h k = k
  both_fit (s ∷ ss) ts h k = (h.0, both_fit ss ts h.1 k)

  mutual
    kind_within : (kind : Kind) (at : ℕ) → IsPlacedKind kind → (is_const kind ≡ false → at + width kind ≤ n) → AllFit n (kind_scalars kind at)
    kind_within (Leaf l) at placed fits = (fits refl, tt)
    kind_within (Enum l names) at placed fits = (fits refl, tt)
    kind_within (Set p names) at placed fits = (fits refl, tt)
    kind_within (Const c) at placed fits = tt
    kind_within (Comp' n' members) at placed fits = row_within members at 0 (width (Comp' n' members)) placed (omega arith) (fits refl)

    row_within : {k : _} (row : Row_of-Member k) (at e w : ℕ) → IsPlacedRow e row → row_end e row ≤ w → at + w ≤ n → AllFit n (member_scalars at e row)
    row_within end_of-Member at e w placed ends fits = tt
    row_within (more_of-Member name offset kind rest) at e w placed ends fits =
        let p = begin_of e offset in
        let next = cond (is_const kind) e (p + width kind) in
        let grows : next ≤ row_end next rest = row_grows rest next placed.2 in
        let there : is_const kind ≡ false → at + p + width kind ≤ n =
        λ c. let within : p + width kind ≤ w = subst (λ (t : Bool). cond t e (p + width kind) ≤ w) c (omega (arith, grows, ends)) in omega (arith, within, fits) in
        both_fit (kind_scalars kind (at + p)) (member_scalars at next rest) (kind_within kind (at + p) placed.1 there) (row_within rest at next w placed.2 ends fits)

  fields_within : (e : ℕ) (fs : List Field) → ArePlaced e fs → fields_end e fs ≤ n → AllFit n (field_scalars e fs)
  fields_within e [] placed ends = tt
  fields_within e (f ∷ fs) placed ends =
      let p = begin_of e f.offset in
      let next = end_past e f.offset f.kind in
      let grows : next ≤ fields_end next fs = fields_grow next fs placed.2 in
      let within : is_const f.kind ≡ false → p + width f.kind ≤ n = λ c. subst (λ (t : Bool). cond t e (p + width f.kind) ≤ n) c (omega (arith, grows, ends)) in
      both_fit (kind_scalars f.kind p) (field_scalars next fs) (kind_within f.kind p placed.1 within) (fields_within next fs placed.2 ends)

  rows_within : (rows : List FlatRow) → AllByRecursion IsRow rows → AllFit n (map scalar_of rows) → RowsFit n rows
  rows_within [] h k = tt
  rows_within (r ∷ rs) h k = (omega (arith, h.0.end, k.0), rows_within rs h.1 k.1)

pub table_fits : (table : FlatRows) (fs : List Field) (version n : ℕ) → ArePlaced 0 fs → AllAlive version fs → floor version fs ≤ n → IsTable table →
    stands_for table ≡ scalars_of fs → RowsFit n table.rows.items
table_fits table fs version n placed alive reaches is stands =
    let values = fields_within n 0 fs placed (omega (arith, reaches, floor_is version 0 0 fs alive refl)) in
    rows_within n table.rows.items is (subst (AllFit n) (sym stands) values)
