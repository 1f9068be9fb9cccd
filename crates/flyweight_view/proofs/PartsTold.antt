-- A data part of a level, and what is read of it.
use Rattle.std.proofs.Common.{◌≡◌, ◌≤◌, ◌<◌, ◌+◌, ◌-◌, ℕ, Bool, true, false, cond, List, ◌∷◌, length, take, drop, Option, Some, None, Result, Ok, Err, refl, sym, ap, ◌∙◌, subst, arith, length-drop}
use Rattle.std.specs.Prelude.{IsOk, IfSome, nat_le, slice_get, map, pos}
use Rattle.std.specs.Option.{option_map}
use Rattle.std.proofs.lemmas.Bool.{leb-true, le-leb}
use Rattle.std.proofs.lemmas.Bool.Decides.{nat_tests}
use Rattle.std.proofs.lemmas.List.{drop-drop, drop-take}
use Rattle.sbe_types.specs.declared.limits.TheConstants.{PART_LIMIT}
use Rattle.sbe_types.specs.declared.message.DataVal.{DataVal}
use Rattle.sbe_types.specs.declared.message.DataVal.TheVariants as dataval
use Rattle.sbe_types.specs.declared.schema.DataField.{DataField}
use Rattle.sbe_types.specs.declared.schema.Level.{out-Level}
use Rattle.sbe_types.specs.Numbers.{prim_width}
use Rattle.sbe_types.specs.Shown.{admits}
use Rattle.sbe_wire.specs.declared.codes.FCode.TheVariants as code
use Rattle.sbe_wire.specs.Faults.{Fault, fault_at, count_of}
use Rattle.sbe_wire.specs.Reading.{and_check, each_read, data_bytes, data_whole}
use Rattle.sbe_wire.specs.Versions.{is_alive}
use Rattle.sbe_wire.proofs.Combine.{ok_is}
use Rattle.var_data.specs.declared.data.DataErr.{DataErr}
use Rattle.var_data.specs.declared.data.DataErr.TheVariants as bad
use Rattle.var_data.specs.Ranges.{data_range}
use Rattle.layout_tables.proofs.Items.{drop_at, all_dropped, long_map}
use Rattle.body_walk.specs.declared.layer.Layer.{Layer}
use Rattle.sbe_wire.specs.declared.mode.Mode.{Mode}
use Rattle.body_walk.specs.inner.Cursor.{placed, range_answer}
use Rattle.body_walk.specs.inner.Layers.{IsLayer}
use Rattle.flyweight_view.specs.inner.Lefts.{items_of, rest_of}
use Rattle.flyweight_view.specs.inner.Parts.{parts_by, part_entered, range_bytes, range_end, IsRange, LineUp, AreLeft, left_in, next_parts, parts_at, parts_left}
use Rattle.flyweight_view.specs.TypedBlocks.{bytes_in}
use Rattle.flyweight_view.proofs.Lefts.{First, each_next, each_many, ok_there}
use Rattle.body_walk.proofs.LevelsReady.{level_ready}
use Rattle.body_walk.proofs.Walks.{part_walked}

-- ---- a part

module _ (mode : Mode) (part : DataField) (body : List ℕ) (at : ℕ) where
  abbrev front : List ℕ
  front = drop at body

  abbrev wide : ℕ
  wide = prim_width part.length.prim

  abbrev many : ℕ
  many = count_of mode.order part front

  alive_by : (t : Bool) → is_alive mode.version part.since ≡ t → parts_by mode part front ≡ cond t (data_whole mode.order part front) (Ok (dataval.Absent, front))
  alive_by t e = ap (λ t. cond t (data_whole mode.order part front) (Ok (dataval.Absent, front))) e

  pub part_gone : mode.version < part.since → parts_by mode part front ≡ Ok (dataval.Absent, front)
  part_gone dead =
      let below : is_alive mode.version part.since ≡ false = grind (arith, nat_tests) in
      alive_by false below

  -- what is known where a range is told
  tests_ok : {X E : Type 0} (t u v : Bool) (x y : X) (e f g : E) → ◌≡◌ {A = Result X E} (Ok x) (cond t (cond u (cond v (Ok y) (Err e)) (Err f)) (Err g)) → (t ≡ true) × (u ≡ true) × (v ≡ true) × (x ≡ y)
  tests_ok true true true x y e f g h = (refl, refl, refl, ok_is h)
  tests_ok true true false x y e f g h = cc
  tests_ok true false v x y e f g h = cc
  tests_ok false u v x y e f g h = cc

  pub part_there : (range : ℕ × ℕ) → at ≤ length body → part.since ≤ mode.version → Ok range ≡ data_range mode.order part.length body at → (parts_by mode part front ≡ part_entered body at (Some range)) × IsRange body range
  part_there range near alive told =
      let here : is_alive mode.version part.since ≡ true = le-leb part.since mode.version alive in
      let tests = tests_ok (nat_le wide (length body - at)) (admits part.length (pos many)) (nat_le many (length body - (at + wide))) range (at + wide, at + wide + many) _ _ _ told in
      let long = length-drop at body in
      let one : wide ≤ length body - at = leb-true wide (length body - at) tests.0 in
      let two : many ≤ length body - (at + wide) = leb-true many (length body - (at + wide)) tests.2 in
      let begins : range.0 ≡ at + wide = ap (λ (r : ℕ × ℕ). r.0) tests.3 in
      let ends : range.1 ≡ at + wide + many = ap (λ (r : ℕ × ℕ). r.1) tests.3 in
      let first : nat_le wide (length front) ≡ true = le-leb wide (length front) (omega (arith, one, long)) in
      let whole : nat_le (wide + many) (length front) ≡ true = le-leb (wide + many) (length front) (omega (arith, one, two, long, near)) in
      let size : range.1 - range.0 ≡ many = omega (arith, begins, ends) in
      let bytes : drop wide (take (wide + many) front) ≡ range_bytes body range =
      drop-take wide many front ∙ ap (take many) (drop-drop wide at body) ∙ ap (λ k. take many (drop k body)) (sym begins) ∙ ap (λ k. take k (drop range.0 body)) (sym size) in
      let far : at + (wide + many) ≡ range.1 = omega (arith, ends) in
      let after : drop (wide + many) front ≡ drop range.1 body = drop-drop (wide + many) at body ∙ ap (λ k. drop k body) far in
      let judge : List ℕ → Result DataVal Fault = λ b. Ok (dataval.Bytes (drop wide b)) in (
        alive_by true here
            ∙ ap (λ t. cond t (data_bytes mode.order part many front) (Err (fault_at code.Truncated 0 (pos wide)))) first
            ∙ ap (λ t. cond t (and_check judge (cond (nat_le (wide + many) (length front)) (Ok (take (wide + many) front, drop (wide + many) front)) (Err (fault_at code.Truncated 0 (pos (wide + many)))))) (Err (fault_at code.Length 0 (pos many)))) tests.1
            ∙ ap (λ t. and_check judge (cond t (Ok (take (wide + many) front, drop (wide + many) front)) (Err (fault_at code.Truncated 0 (pos (wide + many)))))) whole
            ∙ ap (λ b. Ok (dataval.Bytes b, drop (wide + many) front)) bytes
            ∙ ap (λ b. Ok (dataval.Bytes (range_bytes body range), b)) after,
        record { ordered = omega (arith, begins, ends); within = omega (arith, ends, one, two, near) },
      )

  -- where it is read, no fault is told
  never : (e : DataErr) (r : DataVal × List ℕ) → ◌≡◌ {A = Result ℕ Fault} (Ok (length body - length r.1)) (range_answer at (Err e)) → ⊥
  never (bad.Truncated needed) r h = cc
  never (bad.Length n) r h = cc

  pub part_never : (e : DataErr) → at ≤ length body → part.since ≤ mode.version → Err e ≡ data_range mode.order part.length body at → IsOk (parts_by mode part front) → ⊥
  part_never e near alive told ok =
      let here : is_alive mode.version part.since ≡ true = le-leb part.since mode.version alive in
      let r = ok_there (parts_by mode part front) ok in
      never e r.0
      (sym (ap (placed (length body) at) r.1) ∙ part_walked mode part body at near
      ∙ ap (λ t. cond t (range_answer at (data_range mode.order part.length body at)) (Ok at)) here
      ∙ ap (range_answer at) (sym told))

  -- so its range is told
  pub range_stands : (r : Result (ℕ × ℕ) DataErr) → at ≤ length body → part.since ≤ mode.version → IsOk (parts_by mode part front) → r ≡ data_range mode.order part.length body at → IsOk r
  range_stands (Ok range) near alive ok told = refl
  range_stands (Err e) near alive ok told = absurd (part_never e near alive told ok)

-- ---- the parts of a level

module _ (l : Layer) (i at : ℕ) (part : DataField) (line : LineUp l i at) (there : slice_get (out-Level l.level.now).parts i ≡ Some part) where
  abbrev others : List DataField
  others = drop (i + 1) (out-Level l.level.now).parts

  abbrev body : List ℕ
  body = l.body.now

  parts_are : next_parts l i ≡ part ∷ others
  parts_are = drop_at (out-Level l.level.now).parts i part there

  first_part : First (parts_by l.mode part) (each_read (parts_by l.mode) 0 (part ∷ others)) (each_read (parts_by l.mode) 0 others) (drop at body)
  first_part = each_next (parts_by l.mode) part others (drop at body) (subst (λ ps. IsOk (each_read (parts_by l.mode) 0 ps (drop at body))) parts_are line.reads)

  pub part_read : IsOk (parts_by l.mode part (drop at body))
  part_read = subst (λ (r : Result (DataVal × List ℕ) Fault). IsOk r) (sym first_part.first) refl

  module _ (range : Option (ℕ × ℕ)) (told : parts_by l.mode part (drop at body) ≡ part_entered body at range) where
    entered_end : (o : Option (ℕ × ℕ)) → rest_of (part_entered body at o) ≡ drop (range_end at o) body
    entered_end None = refl
    entered_end (Some r) = refl

    entered_seen : (o : Option (ℕ × ℕ)) (v : DataVal) (rest : List ℕ) → part_entered body at o ≡ Ok (v, rest) → bytes_in v ≡ option_map (range_bytes body) o
    entered_seen None v rest h = ap (λ (z : DataVal × List ℕ). bytes_in z.0) (sym (ok_is h))
    entered_seen (Some r) v rest h = ap (λ (z : DataVal × List ℕ). bytes_in z.0) (sym (ok_is h))

    rest_is : first_part.rest ≡ drop (range_end at range) body
    rest_is = sym (ap rest_of first_part.first) ∙ ap rest_of told ∙ entered_end range

    pub parts_go : range_end at range ≤ length body → LineUp l (i + 1) (range_end at range)
    parts_go near = record {
      near = near;
      reads = subst (λ b. IsOk (each_read (parts_by l.mode) 0 others b)) rest_is first_part.others;
    }

    pub parts_seen : parts_left l i at ≡ option_map (range_bytes body) range ∷ parts_left l (i + 1) (range_end at range)
    parts_seen =
        ap (λ ps. map bytes_in (items_of (each_read (parts_by l.mode) 0 ps (drop at body)))) parts_are
        ∙ ap (map bytes_in) first_part.items
        ∙ ap (λ b. bytes_in first_part.x ∷ map bytes_in (items_of (each_read (parts_by l.mode) 0 others b))) rest_is
        ∙ ap (λ o. o ∷ parts_left l (i + 1) (range_end at range)) (entered_seen range first_part.x first_part.rest (sym told ∙ first_part.first))

    pub parts_rests : rest_of (parts_at l i at) ≡ rest_of (parts_at l (i + 1) (range_end at range))
    parts_rests =
        ap (λ ps. rest_of (each_read (parts_by l.mode) 0 ps (drop at body))) parts_are
        ∙ first_part.rests
        ∙ ap (λ b. rest_of (each_read (parts_by l.mode) 0 others b)) rest_is

-- after the last part
pub none_left : (l : Layer) (i at : ℕ) → length (out-Level l.level.now).parts ≤ i → rest_of (parts_at l i at) ≡ drop at l.body.now
unfolding each_read
none_left l i at most = ap (λ ps. rest_of (each_read (parts_by l.mode) 0 ps (drop at l.body.now))) (all_dropped (out-Level l.level.now).parts i most)

-- ---- the parts that are left

pub end_within : (body : List ℕ) (at : ℕ) (o : Option (ℕ × ℕ)) → at ≤ length body → IfSome o (λ r. IsRange body r) → range_end at o ≤ length body
end_within bytes at None near h = near
end_within bytes at (Some r) near h = h.within

line_of : (o : Option Layer) (l : Layer) (i at : ℕ) → o ≡ Some l → AreLeft o i at → IsLayer l × LineUp l i at
line_of o l i at is left = subst (λ (z : Option Layer). AreLeft z i at) is left

pub left_many : (o : Option Layer) (l : Layer) (i at : ℕ) → o ≡ Some l → AreLeft o i at → length (left_in o i at) ≡ length (out-Level l.level.now).parts - i
left_many o l i at is left =
    let r = ok_there (parts_at l i at) (line_of o l i at is left).1.reads in
    ap (λ (z : Option Layer). length (left_in z i at)) is
    ∙ long_map bytes_in (items_of (parts_at l i at))
    ∙ ap (λ (z : Result (List DataVal × List ℕ) Fault). length (items_of z)) r.1
    ∙ each_many (parts_by l.mode) 0 (next_parts l i) (drop at l.body.now) r.0 r.1
    ∙ length-drop i (out-Level l.level.now).parts

pub left_few : (o : Option Layer) (l : Layer) (i at : ℕ) → o ≡ Some l → AreLeft o i at → length (out-Level l.level.now).parts ≤ PART_LIMIT
left_few o l i at is left =
    let layer = (line_of o l i at is left).0 in
    let known = level_ready l.layout.now l.number l.level.now layer.ready layer.level_is in
    omega (arith, known.few)
