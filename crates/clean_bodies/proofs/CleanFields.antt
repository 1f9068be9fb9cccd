-- A clean block is that of its fields' values.
use Rattle.std.proofs.Common.{◌≡◌, ℕ, ◌-◌, ◌≤◌, true, cond, List, [], ◌∷◌, ◌++◌, length, take, drop, Some, refl, sym, ap, ◌∙◌, arith, length-drop}
use Rattle.std.specs.Prelude.{replicate}
use Rattle.std.specs.Option.{option_map}
use Rattle.std.proofs.lemmas.List.{take-append-drop, length-take-le}
use Rattle.byte_digits.specs.Digits.{IsBytes}
use Rattle.byte_digits.proofs.Bytes.{IsBytes-take, IsBytes-drop}
use Rattle.sbe_types.specs.declared.kind.Order.{Order}
use Rattle.sbe_types.specs.declared.schema.Field.{Field}
use Rattle.sbe_types.specs.declared.message.Value.{Value}
use Rattle.sbe_types.specs.declared.message.Value.TheVariants as value
use Rattle.sbe_types.specs.Places.{is_const, begin_of, end_past, fields_end}
use Rattle.sbe_types.specs.Shows.{Shows}
use Rattle.sbe_types.specs.Wire.{both, padded, wire_bytes}
use Rattle.sbe_wire.specs.Versions.{own_mode}
use Rattle.sbe_wire.specs.Canonical.{fields_bytes, block_bytes}
use Rattle.sbe_wire.specs.Lays.{FieldsLay}
use Rattle.sbe_wire.specs.Placed.{ArePlaced}
use Rattle.writing_laws.specs.Writable.{AreWritableFields}
use Rattle.writing_laws.proofs.Own.{alive_from}
use Rattle.clean_bodies.specs.Clean.{between, part_in, AreCleanFields, IsCleanBlock}
use Rattle.clean_bodies.proofs.Zeros.{between_append, between_none}
use Rattle.clean_bodies.proofs.CleanKinds.{part_is, part_grows, part_within, kind_clean}

pub fields_grow : (e : ℕ) (fs : List Field) → ArePlaced e fs → e ≤ fields_end e fs
fields_grow e [] placed = omega arith
fields_grow e (f ∷ fs) placed =
    let here = part_grows e f.offset f.kind (is_const f.kind) refl placed.0 in
    let there = fields_grow (end_past e f.offset f.kind) fs placed.2 in
    omega (arith, here, there)

module _ (order : Order) (version : ℕ) where
  fields_clean : (e : ℕ) (fs : List Field) → ArePlaced e fs → AreWritableFields version fs
      → (vs : List Value) (b : List ℕ) → IsBytes b → fields_end e fs ≤ length b → FieldsLay (own_mode order version) e fs vs b
      → AreCleanFields e fs b → fields_bytes order e fs vs ≡ Some (between e (fields_end e fs) b)
  fields_clean e [] placed writable [] b good within h clean = ap Some (sym (between_none e b))
  fields_clean e [] placed writable (v ∷ vs) b good within h clean = absurd h
  fields_clean e (f ∷ fs) placed writable [] b good within h clean = absurd h
  fields_clean e (f ∷ fs) placed writable (v ∷ vs) b good within h clean =
      let kind = f.kind in
      let offset = f.offset in
      let next : ℕ = end_past e offset kind in
      let zeros : List ℕ = replicate (cond (is_const kind) 0 (begin_of e offset - e)) 0 in
      let grows : next ≤ fields_end next fs = fields_grow next fs placed.2 in
      let after : e ≤ next = part_grows e offset kind (is_const kind) refl placed.0 in
      let shows : Shows order true kind v (part_in e offset kind b) =
      alive_from (Shows order true kind v (part_in e offset kind b)) (v ≡ value.Absent) version f.since writable.1 h.0 in
      let here : wire_bytes order kind v ≡ Some (part_in e offset kind b) =
      kind_clean order kind placed.1 writable.0 v (part_in e offset kind b) (IsBytes-take _ _ (IsBytes-drop _ b good)) shows clean.1 in
      let there = fields_clean next fs placed.2 writable.2 vs b good within h.1 clean.2 in
      let part =
      part_is e offset kind (is_const kind) refl placed.0 b
      (part_within e (length b) offset kind (is_const kind) (omega (arith, grows, within))) clean.0 in
      ap (λ o. both (both (Some zeros) o) (fields_bytes order next fs vs)) here
      ∙ ap (λ o. both (Some (zeros ++ part_in e offset kind b)) o) there
      ∙ ap (λ z. Some (z ++ between next (fields_end next fs) b)) part
      ∙ ap Some (between_append e next (fields_end next fs) b after grows)

  -- the block of a level whose fields end within it
  pub block_clean : (fs : List Field) → ArePlaced 0 fs → AreWritableFields version fs → (vs : List Value) (b : List ℕ)
      → IsBytes b → fields_end 0 fs ≤ length b → FieldsLay (own_mode order version) 0 fs vs b → IsCleanBlock fs b
      → block_bytes order (length b) fs vs ≡ Some b
  block_clean fs placed writable vs b good within h clean =
      let n = fields_end 0 fs in
      let all : n - 0 ≡ n = omega arith in
      let front : List ℕ = between 0 n b in
      let long : length front ≡ n = length-take-le (n - 0) b (omega (arith, within)) ∙ all in
      let same : front ≡ take n b = ap (λ k. take k b) all in
      let many : length b - length front ≡ length (drop n b) = omega (arith, long, length-drop n b) in
      let rest : replicate (length b - length front) 0 ≡ drop n b =
      ap (λ k. replicate k 0) many ∙ sym clean.rest_clean in
      ap (option_map (padded (length b))) (fields_clean 0 fs placed writable vs b good within h clean.fields_clean)
      ∙ ap (λ z. Some (front ++ z)) rest
      ∙ ap (λ z. Some (z ++ drop n b)) same
      ∙ ap Some (take-append-drop n b)
