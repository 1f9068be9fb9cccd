-- Data parts that are put.
use Rattle.std.proofs.Common.{◌≡◌, ◌≤◌, ◌+◌, ℕ, List, ◌++◌, length, take, drop, get_or, Option, Some, Result, Ok, Err, refl, sym, ap, ◌∙◌, subst, arith, append_assoc, length-append}
use Rattle.std.specs.Prelude.{OnOk, slice_get}
use Rattle.std.specs.Option.{option_map}
use Rattle.std.proofs.lemmas.List.{drop-drop}
use Rattle.std.proofs.lemmas.Option.{slice_get_read}
use Rattle.std.proofs.lemmas.Slice.{take-put_mid, drop-put_mid}
use borrow.Rule.Slice.PartMut.{put_mid}
use Rattle.sbe_types.specs.declared.message.DataVal.TheVariants.{Bytes}
use Rattle.sbe_types.specs.declared.schema.DataField.{DataField}
use Rattle.sbe_types.specs.declared.schema.Level.{out-Level}
use Rattle.sbe_types.specs.declared.schema.WireSchema.{WireSchema}
use Rattle.sbe_wire.specs.Canonical.{part_bytes}
use Rattle.schema_facts.specs.CheckedLevels.{HasKinds}
use Rattle.schema_facts.specs.InOrder.{IsLeafInOrder}
use Rattle.schema_facts.specs.IsChecked.{IsChecked}
use Rattle.schema_facts.specs.Levels.{all_nodes}
use Rattle.layout_tables.specs.declared.rows.LevelRow.{LevelRow}
use Rattle.layout_tables.specs.declared.rows.PartPlace.{PartPlace}
use Rattle.layout_tables.specs.declared.rows.PartRow.{PartRow}
use Rattle.layout_tables.specs.Parts.{all_parts, PartStands}
use Rattle.layout_tables.specs.Rowed.{RowFor}
use Rattle.var_data.specs.declared.put.PutDataErr.{PutDataErr}
use Rattle.field_bytes.specs.Laid.{laid_at, IsPut}
use Rattle.var_data.specs.Laid.{counted_bytes, data_end}
use Rattle.var_data.proofs.DataRows.{at_each, part_at, part_within, parts_is}

-- ---- one piece after another

-- two pieces that are written one after the other are one
pub put_behind : (old first second : List ℕ) (at w n k j : ℕ) → length first ≡ w → length second ≡ n → at + w + n ≤ length old → k ≡ w → j ≡ n →
    put_mid (at + w) j (put_mid at k old first) second ≡ laid_at at (first ++ second) old
put_behind old first second at w n k j one two room is same =
    let step : put_mid at k old first ≡ put_mid at w old first = ap (λ m. put_mid at m old first) is in
    let mid = put_mid at w old first in
    let front : take (at + w) mid ≡ take at old ++ first = take-put_mid at w old first (at + w) (omega arith) (omega arith) in
    let back : drop n (drop (at + w) mid) ≡ drop (at + length (first ++ second)) old =
    ap (drop n) (drop-put_mid at w old first (at + w) (omega arith) (omega arith) one)
    ∙ drop-drop n (at + w) old ∙ ap (λ m. drop m old) (omega (arith, length-append first second, one, two)) in
    ap (λ x. put_mid (at + w) j x second) step
    ∙ ap (λ m. put_mid (at + w) m mid second) same
    ∙ ap (λ x. x ++ (second ++ drop n (drop (at + w) mid))) front
    ∙ ap (λ x. (take at old ++ first) ++ (second ++ x)) back
    ∙ append_assoc (take at old) first (second ++ drop (at + length (first ++ second)) old)
    ∙ ap (λ x. take at old ++ x) (sym (append_assoc first second (drop (at + length (first ++ second)) old)))

pub on_ok : {T E : Type 0} {P Q : Type 0} (r : Result T E) → (P → Q) → OnOk r P → OnOk r Q
on_ok (Ok x) f h = f h
on_ok (Err e) f h = h

-- ---- a data part of the schema

module _ (schema : WireSchema) (k : ℕ) (place : PartPlace) (level : LevelRow) (stands : PartStands schema k place) (for : RowFor schema place.level level) where
  part_here : (row : PartRow) → row ≡ get_or level.parts.items place.part row → slice_get level.parts.items place.part ≡ Some row
  part_here row is = slice_get_read level.parts.items _ place.part row refl (part_within schema k place level stands for) is

  -- its length number is in order
  pub part_ready : (row : PartRow) → IsChecked schema → row ≡ get_or level.parts.items place.part row → IsLeafInOrder row.length
  part_ready row checked is =
      let part = part_at schema place.level place.part level row for (part_here row is) in
      let kinds : HasKinds for.0 = at_each HasKinds (all_nodes schema) place.level for.0 checked.kinds.levels for.1 in
      let here : slice_get (out-Level for.0.level).parts place.part ≡ Some part.0 = ap (λ ps. slice_get ps place.part) (sym (parts_is schema place.level level for)) ∙ part.1 in
      subst (λ (r : PartRow). IsLeafInOrder r.length) (sym part.2) (at_each (λ (d : DataField). IsLeafInOrder d.length) (out-Level for.0.level).parts place.part part.0 kinds.lengths here)

  -- the part is the row's
  part_is : (row : PartRow) → row ≡ get_or level.parts.items place.part row → (d : DataField) × (slice_get (all_parts schema) k ≡ Some d) × (row.length ≡ d.length)
  part_is row is =
      let part = part_at schema place.level place.part level row for (part_here row is) in
      (part.0, stands.same ∙ part.1, ap (λ (r : PartRow). r.length) part.2)

  pub end_told : (row : PartRow) (n room at : ℕ) (result : Result ℕ PutDataErr) → row ≡ get_or level.parts.items place.part row → result ≡ data_end row.length n room at →
      option_map (λ (d : DataField). data_end d.length n room at) (slice_get (all_parts schema) k) ≡ Some result
  end_told row n room at result is told =
      let part = part_is row is in
      ap (option_map (λ (d : DataField). data_end d.length n room at)) part.1 ∙ ap Some (ap (λ l. data_end l n room at) (sym part.2) ∙ sym told)

  same_part : (a b : DataField) → ◌≡◌ {A = Option DataField} (Some a) (Some b) → a ≡ b
  same_part a b h = cc

  pub piece_put : (row : PartRow) (bytes old new : List ℕ) (at : ℕ) → row ≡ get_or level.parts.items place.part row → IsPut (counted_bytes schema.order row.length.prim bytes) at old new →
      (d : DataField) → slice_get (all_parts schema) k ≡ Some d → IsPut (part_bytes schema.order d (Bytes bytes)) at old new
  piece_put row bytes old new at is put d there =
      let part = part_is row is in
      let same : row.length ≡ d.length = part.2 ∙ ap (λ (x : DataField). x.length) (same_part part.0 d (sym part.1 ∙ there)) in
      subst (λ l. IsPut (counted_bytes schema.order l.prim bytes) at old new) same put
