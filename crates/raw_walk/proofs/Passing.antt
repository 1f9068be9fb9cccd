-- A walk over the fields of a body, step by step.
use Rattle.std.proofs.Common.{◌≡◌, ◌≢◌, ◌⊎◌, inl, inr, ℕ, ◌+◌, ◌-◌, ◌<◌, ◌≤◌, true, false, List, [], ◌∷◌, ◌++◌, length, take, drop, None, refl, ap, ◌∙◌, arith, length-append}
use Rattle.std.specs.Result.{is_ok}
use Rattle.std.specs.Str.Parse.{digits_value}
use Rattle.std.proofs.lemmas.Bool.{cases_lt}
use Rattle.tagvalue_codec.specs.declared.data_tags.Pair.{Pair}
use Rattle.tagvalue_codec.specs.declared.data_tags.Role.TheVariants.{Plain, Length, Data}
use Rattle.tagvalue_codec.specs.declared.table.FixField.{FixField}
use Rattle.tagvalue_codec.specs.Fields.{is_number}
use Rattle.tagvalue_codec.specs.Pairs.{role_of}
use Rattle.tagvalue_codec.specs.Texts.{Free, is_locked}
use Rattle.tagvalue_codec.specs.Reading.{field_read, tag_read}
use Rattle.tagvalue_codec.specs.Places.{TagAt, FoundAt, ends_at, filled}
use Rattle.tagvalue_codec.proofs.Filling.{fits_length, filled_full, plain_step, no_field, locked_field, lone_data, no_number, no_tag, zero_many, other_tag, refused, is_length, no_room, no_data, both_in}
use Rattle.raw_walk.specs.Walks.{Step, step, GoesOn, Stops, Passed}

one_more : (table : List FixField) (f : FixField) → length (table ++ (f ∷ [])) ≡ length table + 1
one_more table f = length-append table (f ∷ [])

-- ---- steps after one another

pub passed_none : (tags : List Pair) (front : List ℕ) (a : Step) → a.many ≤ 4096 → Passed tags front a a
passed_none tags front a low = record { on = λ few table is. (table, is, refl); full = λ more. absurd (omega (arith, more, low)) }

pub stops_later : (tags : List Pair) (front : List ℕ) (a b : Step) → GoesOn tags front a b → Stops tags front b → Stops tags front a
stops_later tags front a b on stops = λ table is. let x = on table is in ap is_ok x.2 ∙ stops x.0 x.1

pub stops_after : (tags : List Pair) (front : List ℕ) (a b : Step) → Passed tags front a b → b.many < 4096 → Stops tags front b → Stops tags front a
stops_after tags front a b p few stops = stops_later tags front a b (p.on (omega (arith, few))) stops

pub passed_more : (tags : List Pair) (front : List ℕ) (a b c : Step) → Passed tags front a b → b.many < 4096 → Passed tags front b c → Passed tags front a c
passed_more tags front a b c p few q = record {
  on = λ low table is. let x = p.on (omega (arith, few)) table is in let y = q.on low x.0 x.1 in (y.0, y.1, x.2 ∙ y.2);
  full = λ more. stops_after tags front a b p few (q.full more);
}

-- so many fields that there is no room for the last one
pub passed_full : (tags : List Pair) (front : List ℕ) (a b : Step) → Passed tags front a b → 4096 ≤ b.many → Stops tags front a
passed_full tags front a b p many = by_order (cases_lt 4096 b.many) where
  by_order : (4096 < b.many) ⊎ (b.many ≤ 4096) → Stops tags front a
  by_order (inl more) = p.full more
  by_order (inr low) = λ table is. let x = p.on low table is in let full : length x.0 ≡ 4096 = omega (arith, x.1, many, low) in ap is_ok (x.2 ∙ filled_full tags Free x.0 b.at front full)

-- ---- one field

pub none_here : (tags : List Pair) (front : List ℕ) (many at : ℕ) → many < 4096 → at < length front → field_read (drop at front) ≡ None → Stops tags front (step many at)
none_here tags front many at few within none = λ table is. ap is_ok (no_field tags table at front none (omega (arith, is, few)) within)

pub locked_here : (tags : List Pair) (front : List ℕ) (many at : ℕ) (f : FixField) → many < 4096 → at < length front → FoundAt field_read front at f → is_locked f.tag ≡ true → Stops tags front (step many at)
locked_here tags front many at f few within h locked = λ table is. ap is_ok (locked_field tags table at front f h (omega (arith, is, few)) within locked)

pub data_here : (tags : List Pair) (front : List ℕ) (many at : ℕ) (f : FixField) → many < 4096 → at < length front → FoundAt field_read front at f → is_locked f.tag ≡ false → role_of tags f.tag ≡ Data → Stops tags front (step many at)
data_here tags front many at f few within h free role = λ table is. ap is_ok (lone_data tags table at front f h (omega (arith, is, few)) within free role)

pub plain_here : (tags : List Pair) (front : List ℕ) (many at : ℕ) (f : FixField) → many < 4096 → at < length front → FoundAt field_read front at f → is_locked f.tag ≡ false → role_of tags f.tag ≡ Plain →
    Passed tags front (step many at) (step (many + 1) (f.to + 1))
plain_here tags front many at f few within h free role = record {
  on = λ low table is. (table ++ (f ∷ []), one_more table f ∙ ap (λ n. n + 1) is, plain_step tags table at front f h (omega (arith, is, few)) within free role);
  full = λ more. absurd (omega (arith, more, few));
}

-- ---- a length field and its data field

unfit : (tags : List Pair) (front : List ℕ) (many : ℕ) (f : FixField) (tag : ℕ) → many < 4096 → FoundAt field_read front f.at f → is_locked f.tag ≡ false → role_of tags f.tag ≡ Length tag → fits_length tag f front ≡ false → Stops tags front (step many f.at)
unfit tags front many f tag few h free role bad = λ table is. ap is_ok (refused tags table table front f tag h (omega (arith, is, few)) free role bad).told

pub no_number_here : (tags : List Pair) (front : List ℕ) (many : ℕ) (f : FixField) (tag : ℕ) → many < 4096 → FoundAt field_read front f.at f → is_locked f.tag ≡ false → role_of tags f.tag ≡ Length tag → is_number (take (f.to - f.from) (drop f.from front)) ≡ false →
    Stops tags front (step many f.at)
no_number_here tags front many f tag few h free role bad = unfit tags front many f tag few h free role (no_number tag f front bad)

pub no_tag_here : (tags : List Pair) (front : List ℕ) (many : ℕ) (f : FixField) (tag : ℕ) → many < 4096 → FoundAt field_read front f.at f → is_locked f.tag ≡ false → role_of tags f.tag ≡ Length tag → tag_read (drop (f.to + 1) front) ≡ None → Stops tags front (step many f.at)
no_tag_here tags front many f tag few h free role bad = unfit tags front many f tag few h free role (no_tag tag f front bad)

pub zero_here : (tags : List Pair) (front : List ℕ) (many : ℕ) (f : FixField) (tag amount : ℕ) → many < 4096 → FoundAt field_read front f.at f → is_locked f.tag ≡ false → role_of tags f.tag ≡ Length tag →
    (is_number (take (f.to - f.from) (drop f.from front)) ≡ true) × (amount ≡ digits_value 10 (take (f.to - f.from) (drop f.from front))) → amount ≡ 0 → Stops tags front (step many f.at)
zero_here tags front many f tag amount few h free role number none = unfit tags front many f tag few h free role (zero_many tag amount f front number.0 number.1 none)

pub other_here : (tags : List Pair) (front : List ℕ) (many : ℕ) (f : FixField) (tag next from : ℕ) → many < 4096 → FoundAt field_read front f.at f → is_locked f.tag ≡ false → role_of tags f.tag ≡ Length tag → TagAt front (f.to + 1) next from → next ≢ tag → Stops tags front (step many f.at)
other_here tags front many f tag next from few h free role t other = unfit tags front many f tag few h free role (other_tag tag next from f front t other)

-- a length field with its number, before its data field's tag
pub record Pairs (tags : List Pair) (front : List ℕ) (f : FixField) (tag amount from : ℕ) : Type 0 where
  pub found : FoundAt field_read front f.at f
  pub free : is_locked f.tag ≡ false
  pub role : role_of tags f.tag ≡ Length tag
  pub number : (is_number (take (f.to - f.from) (drop f.from front)) ≡ true) × (amount ≡ digits_value 10 (take (f.to - f.from) (drop f.from front)))
  pub some : amount ≢ 0
  pub tagged : TagAt front (f.to + 1) tag from

pub no_data_here : (tags : List Pair) (front : List ℕ) (many : ℕ) (f : FixField) (tag amount from : ℕ) → many < 4096 → Pairs tags front f tag amount from → ends_at (from + amount) front ≡ false → Stops tags front (step many f.at)
no_data_here tags front many f tag amount from few p bad = λ table is. by_order table is (cases_lt (many + 1) 4096) where
  by_order : (table : List FixField) → length table ≡ many → (many + 1 < 4096) ⊎ (4096 ≤ many + 1) → is_ok (filled tags Free table f.at front) ≡ false
  by_order table is (inl room) =
      let l = is_length tags table front f tag amount tag from p.found (omega (arith, is, few)) p.free p.role p.number p.some p.tagged refl in
      ap is_ok (no_data tags table table front f tag amount from (from + amount) l (omega (arith, one_more table f, is, room)) p.tagged refl bad).told
  by_order table is (inr full) =
      let l = is_length tags table front f tag amount tag from p.found (omega (arith, is, few)) p.free p.role p.number p.some p.tagged refl in
      ap is_ok (no_room tags table table front f tag amount l (omega (arith, one_more table f, is, full, few))).told

pub pair_here : (tags : List Pair) (front : List ℕ) (many : ℕ) (f : FixField) (tag amount from : ℕ) → many < 4096 → Pairs tags front f tag amount from → ends_at (from + amount) front ≡ true →
    Passed tags front (step many f.at) (step (many + 2) (from + amount + 1))
pair_here tags front many f tag amount from few p good = record {
  on = λ low table is.
      let g : FixField = record { tag = tag; at = f.to + 1; from = from; to = from + amount } in
      let after = (table ++ (f ∷ [])) ++ (g ∷ []) in
      let l = is_length tags table front f tag amount tag from p.found (omega (arith, is, few)) p.free p.role p.number p.some p.tagged refl in
      let b = both_in tags table after front f tag amount from (from + amount) l (omega (arith, one_more table f, is, low)) p.tagged refl good refl in
      (after, omega (arith, one_more (table ++ (f ∷ [])) g, one_more table f, is), b.moved.0);
  full = λ more table is.
      let l = is_length tags table front f tag amount tag from p.found (omega (arith, is, few)) p.free p.role p.number p.some p.tagged refl in
      ap is_ok (no_room tags table table front f tag amount l (omega (arith, one_more table f, is, more, few))).told;
}
