-- The fields of a block by their rows.
use Rattle.std.proofs.Common.{◌≡◌, ◌≤◌, ◌<◌, ◌+◌, ◌-◌, ℕ, suc, Bool, true, false, cond, List, [], ◌∷◌, length, take, drop, get_or, Result, Ok, refl, sym, ap, ◌∙◌, subst, arith}
use Rattle.std.specs.Prelude.{not, ◌&&◌}
use Rattle.std.specs.List.{AllByRecursion}
use Rattle.sbe_types.specs.declared.kind.Kind.{Kind, Leaf, Enum, Set, Const, Comp'}
use Rattle.sbe_types.specs.declared.schema.Field.{Field}
use Rattle.sbe_types.specs.declared.message.Value.{Value}
use Rattle.sbe_types.specs.declared.message.Value.TheVariants as value
use Rattle.sbe_types.specs.declared.path.Step.TheVariants as way
use Rattle.sbe_types.specs.Places.{width, is_const, begin_of, end_past}
use Rattle.sbe_wire.specs.Faults.{Fault}
use Rattle.sbe_wire.specs.Placed.{ArePlaced}
use Rattle.sbe_wire.specs.Reading.{◌>>=◌, later, inside, value_read, field_read, fields_read}
use Rattle.sbe_wire.specs.Versions.{is_alive, floor_from}
use Rattle.sbe_wire.proofs.Blocks.{reach, reach_within, floor_reaches}
use Rattle.layout_tables.specs.declared.rows.FieldRow.{FieldRow}
use Rattle.layout_tables.specs.Rowed.{FieldIs, FieldsAre}
use Rattle.layout_tables.proofs.Items.{drop_is}
use Rattle.sbe_wire.specs.declared.mode.Mode.{Mode}
use Rattle.body_walk.specs.inner.Outcomes.{Piece, piece, check_at}
use Rattle.body_walk.specs.inner.Kinds.{part_check, IsReady}
use Rattle.body_walk.specs.inner.Fields.{field_check, fields_check, IsFieldRow, AreFieldRows}
use Rattle.body_walk.proofs.KindTold.{settled_later, settled_two}

-- ---- what the reader says of a field is what its row tells

module _ (mode : Mode) (b : Piece) where
  abbrev reads : Kind → List ℕ → Result Value Fault
  reads kind bytes = value_read mode.order mode.known kind bytes

  abbrev there : ℕ → ℕ → Field → Result Value Fault
  there e i f = later (begin_of e f.offset) (inside (way.Part i) (reads f.kind (take (width f.kind) (drop (begin_of e f.offset) b.bytes))))

  abbrev by_row : ℕ → Field → FieldRow → Result Unit Fault
  by_row i f r = part_check mode f.kind i (piece (b.at + r.place) (take (r.end - r.place) (drop r.place b.bytes)))

  fixed_is : (kind : Kind) (n i : ℕ) (bytes : List ℕ) → is_const kind ≡ true → check_at b.at (later n (inside (way.Part i) (reads kind bytes))) ≡ Ok tt
  unfolding value_read
  fixed_is (Leaf l) n i bytes h = cc
  fixed_is (Enum l names) n i bytes h = cc
  fixed_is (Set p names) n i bytes h = cc
  fixed_is (Const c) n i bytes h = refl
  fixed_is (Comp' n' members) n i bytes h = cc

  moving_is : (e i : ℕ) (f : Field) (r : FieldRow) → FieldIs e f r → is_const f.kind ≡ false → check_at b.at (there e i f) ≡ by_row i f r
  moving_is e i f r is moves =
      let begin = begin_of e f.offset in
      let past : end_past e f.offset f.kind ≡ begin + width f.kind = ap (λ t. cond t e (begin + width f.kind)) moves in
      let wide : width f.kind ≡ r.end - r.place = omega (arith, past, is.end, is.place) in
      settled_later b.at begin (inside (way.Part i) (reads f.kind (take (width f.kind) (drop begin b.bytes))))
      ∙ ap (λ p. part_check mode f.kind i (piece (b.at + p) (take (width f.kind) (drop p b.bytes)))) (sym is.place)
      ∙ ap (λ w. part_check mode f.kind i (piece (b.at + r.place) (take w (drop r.place b.bytes)))) wide

  field_by : (e i : ℕ) (f : Field) (r : FieldRow) (alive fixed : Bool) → FieldIs e f r → is_alive mode.version f.since ≡ alive → is_const f.kind ≡ fixed →
      check_at b.at (cond alive (there e i f) (Ok value.Absent)) ≡ cond (alive && not fixed) (by_row i f r) (Ok tt)
  field_by e i f r false fixed is a c = refl
  field_by e i f r true true is a c = fixed_is f.kind (begin_of e f.offset) i (take (width f.kind) (drop (begin_of e f.offset) b.bytes)) c
  field_by e i f r true false is a c = moving_is e i f r is c

  field_is : (e i : ℕ) (f : Field) (r : FieldRow) → FieldIs e f r → check_at b.at (field_read mode e i f b.bytes) ≡ field_check mode b i f r
  field_is e i f r is =
      field_by e i f r (is_alive mode.version f.since) (is_const f.kind) is refl refl
      ∙ ap (λ s. cond (is_alive mode.version s && not (is_const f.kind)) (by_row i f r) (Ok tt)) (sym is.since)
      ∙ ap (λ t. cond (is_alive mode.version r.since && not t) (by_row i f r) (Ok tt)) (sym is.constant)

  pub fields_are : (e i : ℕ) (fs : List Field) (rs : List FieldRow) → FieldsAre e fs rs → check_at b.at (fields_read mode e i fs b.bytes) ≡ fields_check mode b i fs rs
  unfolding fields_read
  fields_are e i [] [] h = refl
  fields_are e i [] (r ∷ rs) h = absurd h
  fields_are e i (f ∷ fs) [] h = absurd h
  fields_are e i (f ∷ fs) (r ∷ rs) h =
      let next = end_past e f.offset f.kind in
      let step : suc i ≡ i + 1 = omega arith in
      settled_two b.at (field_read mode e i f b.bytes) (λ v. fields_read mode next (suc i) fs b.bytes) (fields_check mode b (i + 1) fs rs)
      (λ v. fields_are next (suc i) fs rs h.1 ∙ ap (λ k. fields_check mode b k fs rs) step)
      ∙ ap (λ r. r >>= (λ _. fields_check mode b (i + 1) fs rs)) (field_is e i f r h.0)

-- ---- rows whose fields lie in the block

reach_is : (version e reached : ℕ) (f : Field) → is_alive version f.since ≡ true → is_const f.kind ≡ false → reach version e reached f ≡ end_past e f.offset f.kind
reach_is version e reached f alive moves =
    ap (λ t. cond (t && not (is_const f.kind)) (end_past e f.offset f.kind) reached) alive ∙ ap (λ t. cond (true && not t) (end_past e f.offset f.kind) reached) moves

rows_from : (version n e reached : ℕ) (fs : List Field) (rs : List FieldRow) → FieldsAre e fs rs → ArePlaced e fs → AllByRecursion (λ (f : Field). IsReady f.kind) fs → reached ≤ e → floor_from version e reached fs ≤ n →
    AreFieldRows version n fs rs
rows_from version n e reached [] [] h placed ready low fits = tt
rows_from version n e reached [] (r ∷ rs) h placed ready low fits = absurd h
rows_from version n e reached (f ∷ fs) [] h placed ready low fits = absurd h
rows_from version n e reached (f ∷ fs) (r ∷ rs) h placed ready low fits =
    let next = end_past e f.offset f.kind in
    let up = reach_within version e reached f _ refl low placed.0 in
    let there = floor_reaches version next (reach version e reached f) fs up placed.2 in (
      record {
        ready = ready.0;
        since = h.0.since;
        constant = h.0.constant;
        wide = λ c.
            let moves : is_const f.kind ≡ false = sym h.0.constant ∙ c in
            let past : next ≡ begin_of e f.offset + width f.kind = ap (λ t. cond t e (begin_of e f.offset + width f.kind)) moves in
            omega (arith, past, h.0.end, h.0.place);
        within = λ a c.
            let moves : is_const f.kind ≡ false = sym h.0.constant ∙ c in
            let alive : is_alive version f.since ≡ true = ap (is_alive version) (sym h.0.since) ∙ a in
            omega (arith, reach_is version e reached f alive moves, there, fits, h.0.end);
      },
      rows_from version n next (reach version e reached f) fs rs h.1 placed.2 ready.1 up fits,
    )

pub rows_ready : (version n : ℕ) (fs : List Field) (rs : List FieldRow) → FieldsAre 0 fs rs → ArePlaced 0 fs → AllByRecursion (λ (f : Field). IsReady f.kind) fs → floor_from version 0 0 fs ≤ n → AreFieldRows version n fs rs
rows_ready version n fs rs h placed ready fits = rows_from version n 0 0 fs rs h placed ready (omega arith) fits

-- ---- one more field

pub rows_long : (version n : ℕ) (fs : List Field) (rs : List FieldRow) → AreFieldRows version n fs rs → length rs ≡ length fs
rows_long version n [] [] h = refl
rows_long version n [] (r ∷ rs) h = absurd h
rows_long version n (f ∷ fs) [] h = absurd h
rows_long version n (f ∷ fs) (r ∷ rs) h = ap suc (rows_long version n fs rs h.1)

module _ (mode : Mode) (b : Piece) (n : ℕ) (fs : List Field) (rs : List FieldRow) (i : ℕ) (f : Field) (r : FieldRow) (more : i < length fs) (same : length rs ≡ length fs) (field : f ≡ get_or fs i f) (row : r ≡ get_or rs i r) where
  pub next_rows : AreFieldRows mode.version n (drop i fs) (drop i rs) → IsFieldRow mode.version n f r × AreFieldRows mode.version n (drop (i + 1) fs) (drop (i + 1) rs)
  next_rows h =
      subst (λ rows. AreFieldRows mode.version n (f ∷ drop (i + 1) fs) rows) (drop_is rs i r (omega (arith, same, more)) row)
      (subst (λ fields. AreFieldRows mode.version n fields (drop i rs)) (drop_is fs i f more field) h)

  pub next_told : fields_check mode b i (drop i fs) (drop i rs) ≡ (field_check mode b i f r >>= (λ _. fields_check mode b (i + 1) (drop (i + 1) fs) (drop (i + 1) rs)))
  next_told =
      ap (λ fields. fields_check mode b i fields (drop i rs)) (drop_is fs i f more field)
      ∙ ap (λ rows. fields_check mode b i (f ∷ drop (i + 1) fs) rows) (drop_is rs i r (omega (arith, same, more)) row)
