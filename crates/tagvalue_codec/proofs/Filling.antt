-- A table is filled as the walk over a body goes.
use Rattle.std.proofs.Common.{◌≡◌, ◌≢◌, ℕ, suc, ◌+◌, ◌-◌, ◌≤◌, ◌<◌, Bool, true, false, List, [], ◌∷◌, ◌++◌, length, take, drop, get_or, Some, None, Result, Ok, Err, refl, sym, ap, ◌∙◌, arith, append_assoc, append-nil, length-append, length-drop}
use Rattle.std.specs.Prelude.{nat_lt, ◌&&◌, ◌==◌}
use Rattle.std.specs.Str.Parse.{digits_value}
use Rattle.std.proofs.lemmas.Bool.{eqb-true, eq-eqb, ne_eqb, false≢true, lt-ltb, ltb-true, and_parts as both}
use Rattle.std.proofs.lemmas.Bool.Decides.{nat_tests}
use Rattle.std.proofs.lemmas.List.{drop-drop, length-take-le, get_or-drop}
use Rattle.std.proofs.Math.ListN.{drop_of_length-le}
use Rattle.tagvalue_codec.specs.declared.data_tags.Pair.{Pair}
use Rattle.tagvalue_codec.specs.declared.data_tags.Role.TheVariants.{Plain, Length, Data}
use Rattle.tagvalue_codec.specs.declared.table.FixField.{FixField}
use Rattle.tagvalue_codec.specs.declared.read.TCode.{TCode}
use Rattle.tagvalue_codec.specs.declared.read.TCode.TheVariants as code
use Rattle.tagvalue_codec.specs.declared.read.FixFault.{FixFault}
use Rattle.tagvalue_codec.specs.Fields.{soh, Field, tag_bytes, field_bytes, is_number}
use Rattle.tagvalue_codec.specs.Pairs.{role_of}
use Rattle.tagvalue_codec.specs.Texts.{Owed, Free, Owes, is_locked, owed_by, owed_after}
use Rattle.tagvalue_codec.specs.Reading.{Finder, tag_read, field_read, ordinary_read, data_read, is_tag, is_count, fits_role, step, fault_at, with_front, is_over, walk, placed_at, placed}
use Rattle.tagvalue_codec.specs.Places.{TagAt, FoundAt, after_table, filled, cursor, Passes, ends_at}
use Rattle.tagvalue_codec.proofs.Placing.{tag_same, tag_length, same_field}

-- ---- one step of the walk

field_long : (f : Field) → length (field_bytes f) ≡ length (tag_bytes f.tag) + length f.value + 1
field_long f = omega (arith, length-append (tag_bytes f.tag) (f.value ++ (soh ∷ [])), length-append f.value (soh ∷ []))

-- after a field that was found
pub next_place : (p : Finder Field) (text : List ℕ) (at : ℕ) (f : FixField) (h : FoundAt p text at f) → f.to + 1 ≡ at + length (field_bytes h.field)
next_place p text at f h = omega (arith, field_long h.field, ap (λ (x : FixField). x.to) h.placed_is)

-- one more field in the table
front_behind : (table : List FixField) (at : ℕ) (g : Field) (r : Result (List Field) FixFault) → after_table table at (with_front g r) ≡ after_table (table ++ (placed_at at g ∷ [])) (at + length (field_bytes g)) r
front_behind table at g (Ok fs) = ap Ok (sym (append_assoc table (placed_at at g ∷ []) (placed (at + length (field_bytes g)) fs)))
front_behind table at g (Err e) = refl

-- there is room for one more
room_is : (table : List FixField) → length table < 4096 → (4096 - length table) ≡ suc (4096 - (length table + 1))
room_is table few = omega arith

one_longer : (table : List FixField) (f : FixField) → length (table ++ (f ∷ [])) ≡ length table + 1
one_longer table f = length-append table (f ∷ [])

walk_step : (tags : List Pair) (room : ℕ) (owed : Owed) (at : ℕ) (b : List ℕ) (g : Field) (beyond : List ℕ) → is_over owed b ≡ false → step tags owed b ≡ Ok (g, beyond) →
    walk tags (suc room) owed at b ≡ with_front g (walk tags room (owed_after tags owed g) (at + length (field_bytes g)) beyond)
unfolding walk
walk_step tags room owed at b g beyond over is = rw (over, is) refl

walk_stop : (tags : List Pair) (room : ℕ) (owed : Owed) (at : ℕ) (b : List ℕ) (c : TCode) → is_over owed b ≡ false → step tags owed b ≡ Err c → walk tags (suc room) owed at b ≡ Err (fault_at c at)
unfolding walk
walk_stop tags room owed at b c over is = rw (over, is) refl

walk_full : (tags : List Pair) (owed : Owed) (at : ℕ) (b : List ℕ) → walk tags 0 owed at b ≡ Err (fault_at code.TooMany at)
unfolding walk
walk_full tags owed at b = refl

walk_end : (tags : List Pair) (room at : ℕ) → walk tags (suc room) Free at [] ≡ Ok []
unfolding walk
walk_end tags room at = refl

-- a field went into the table
pub filled_step : (tags : List Pair) (owed : Owed) (table : List FixField) (at : ℕ) (front : List ℕ) (f : FixField) (g : Field) (next : ℕ) → length table < 4096 → is_over owed (drop at front) ≡ false →
    step tags owed (drop at front) ≡ Ok (g, drop next front) → f ≡ placed_at at g → next ≡ at + length (field_bytes g) →
    filled tags owed table at front ≡ filled tags (owed_after tags owed g) (table ++ (f ∷ [])) next front
filled_step tags owed table at front f g next few over is here there =
    let room = 4096 - (length table + 1) in
    let later = owed_after tags owed g in
    ap (λ k. after_table table at (walk tags k owed at (drop at front))) (room_is table few)
    ∙ ap (after_table table at) (walk_step tags room owed at (drop at front) g (drop next front) over is)
    ∙ front_behind table at g (walk tags room later (at + length (field_bytes g)) (drop next front))
    ∙ ap (λ k. after_table (table ++ (placed_at at g ∷ [])) k (walk tags room later k (drop next front))) (sym there)
    ∙ ap (λ x. after_table (table ++ (x ∷ [])) next (walk tags room later next (drop next front))) (sym here)
    ∙ ap (λ k. after_table (table ++ (f ∷ [])) next (walk tags (4096 - k) later next (drop next front))) (sym (one_longer table f))

-- no field stands here
pub filled_stop : (tags : List Pair) (owed : Owed) (table : List FixField) (at : ℕ) (front : List ℕ) (c : TCode) → length table < 4096 → is_over owed (drop at front) ≡ false →
    step tags owed (drop at front) ≡ Err c → filled tags owed table at front ≡ Err (fault_at c at)
filled_stop tags owed table at front c few over is =
    ap (λ k. after_table table at (walk tags k owed at (drop at front))) (room_is table few)
    ∙ ap (after_table table at) (walk_stop tags (4096 - (length table + 1)) owed at (drop at front) c over is)

-- the table is full
pub filled_full : (tags : List Pair) (owed : Owed) (table : List FixField) (at : ℕ) (front : List ℕ) → length table ≡ 4096 → filled tags owed table at front ≡ Err (fault_at code.TooMany at)
filled_full tags owed table at front full =
    let none : 4096 - length table ≡ 0 = omega arith in
    ap (λ k. after_table table at (walk tags k owed at (drop at front))) none ∙ ap (after_table table at) (walk_full tags owed at (drop at front))

-- the body is over
pub filled_end : (tags : List Pair) (table : List FixField) (at : ℕ) (front : List ℕ) → length table < 4096 → length front ≤ at → filled tags Free table at front ≡ Ok table
filled_end tags table at front few over =
    ap (λ k. after_table table at (walk tags k Free at (drop at front))) (room_is table few)
    ∙ ap (λ b. after_table table at (walk tags (suc (4096 - (length table + 1))) Free at b)) (drop_of_length-le front over)
    ∙ ap (after_table table at) (walk_end tags (4096 - (length table + 1)) at) ∙ ap Ok (append-nil table)

-- ---- what stands at a place of a body

-- it isn't over
pub not_over : (at : ℕ) (front : List ℕ) → at < length front → is_over Free (drop at front) ≡ false
not_over at front within = by_bytes (drop at front) (omega (arith, length-drop at front)) where
  by_bytes : (b : List ℕ) → 0 < length b → is_over Free b ≡ false
  by_bytes [] h = absurd (omega arith)
  by_bytes (c ∷ b) h = refl

-- a field that isn't locked
pub ordinary_found : (front : List ℕ) (at : ℕ) (f : FixField) (h : FoundAt field_read front at f) → is_locked f.tag ≡ false → ordinary_read (drop at front) ≡ Some (h.field, drop (f.to + 1) front)
ordinary_found front at f h free =
    let free_too : is_locked h.field.tag ≡ false = ap is_locked (sym (tag_same field_read front at f h)) ∙ free in
    rw (h.found, free_too) refl

-- a field by itself went into the table
pub plain_step : (tags : List Pair) (table : List FixField) (at : ℕ) (front : List ℕ) (f : FixField) → FoundAt field_read front at f → length table < 4096 → at < length front → is_locked f.tag ≡ false →
    role_of tags f.tag ≡ Plain → filled tags Free table at front ≡ filled tags Free (table ++ (f ∷ [])) (f.to + 1) front
plain_step tags table at front f h few within free role =
    let same = tag_same field_read front at f h in
    let role_too : role_of tags h.field.tag ≡ Plain = ap (role_of tags) (sym same) ∙ role in
    let is : step tags Free (drop at front) ≡ Ok (h.field, drop (f.to + 1) front) = rw (ordinary_found front at f h free, role_too) refl in
    filled_step tags Free table at front f h.field (f.to + 1) few (not_over at front within) is h.placed_is (next_place field_read front at f h)
    ∙ ap (λ r. filled tags (owed_by r h.field) (table ++ (f ∷ [])) (f.to + 1) front) role_too

-- no field, or one that is locked
pub no_field : (tags : List Pair) (table : List FixField) (at : ℕ) (front : List ℕ) → field_read (drop at front) ≡ None → length table < 4096 → at < length front → filled tags Free table at front ≡ Err (fault_at code.Field at)
no_field tags table at front none few within = filled_stop tags Free table at front code.Field few (not_over at front within) (rw none refl)

pub locked_field : (tags : List Pair) (table : List FixField) (at : ℕ) (front : List ℕ) (f : FixField) → FoundAt field_read front at f → length table < 4096 → at < length front → is_locked f.tag ≡ true →
    filled tags Free table at front ≡ Err (fault_at code.Field at)
locked_field tags table at front f h few within locked =
    let locked_too : is_locked h.field.tag ≡ true = ap is_locked (sym (tag_same field_read front at f h)) ∙ locked in
    filled_stop tags Free table at front code.Field few (not_over at front within) (rw (h.found, locked_too) refl)

-- a data tag by itself
pub lone_data : (tags : List Pair) (table : List FixField) (at : ℕ) (front : List ℕ) (f : FixField) → FoundAt field_read front at f → length table < 4096 → at < length front → is_locked f.tag ≡ false →
    role_of tags f.tag ≡ Data → filled tags Free table at front ≡ Err (fault_at code.DataLength at)
lone_data tags table at front f h few within free role =
    let role_too : role_of tags h.field.tag ≡ Data = ap (role_of tags) (sym (tag_same field_read front at f h)) ∙ role in
    filled_stop tags Free table at front code.DataLength few (not_over at front within) (rw (ordinary_found front at f h free, role_too) refl)

-- ---- a length field and its data field

-- what a length field and the bytes after it are asked
abbrev pub fits_length : ℕ → FixField → List ℕ → Bool
fits_length tag f front = is_count (take (f.to - f.from) (drop f.from front)) && is_tag tag (tag_read (drop (f.to + 1) front))

length_fits : (tags : List Pair) (front : List ℕ) (f : FixField) (tag : ℕ) (fit : Bool) (h : FoundAt field_read front f.at f) → is_locked f.tag ≡ false → role_of tags f.tag ≡ Length tag → fits_length tag f front ≡ fit →
    (ordinary_read (drop f.at front) ≡ Some (h.field, drop (f.to + 1) front)) × (fits_role (role_of tags h.field.tag) h.field (drop (f.to + 1) front) ≡ fit)
length_fits tags front f tag fit h free role fits =
    let same = tag_same field_read front f.at f h in
    let role_too : role_of tags h.field.tag ≡ Length tag = ap (role_of tags) (sym same) ∙ role in (
      ordinary_found front f.at f h free,
      ap (λ r. fits_role r h.field (drop (f.to + 1) front)) role_too ∙ ap (λ v. is_count v && is_tag tag (tag_read (drop (f.to + 1) front))) h.value_is ∙ fits,
    )

-- the length field is refused
length_stop : (tags : List Pair) (table : List FixField) (front : List ℕ) (f : FixField) (tag : ℕ) → FoundAt field_read front f.at f → length table < 4096 → is_locked f.tag ≡ false → role_of tags f.tag ≡ Length tag →
    fits_length tag f front ≡ false → filled tags Free table f.at front ≡ Err (fault_at code.DataLength f.at)
length_stop tags table front f tag h few free role bad =
    let is = length_fits tags front f tag false h free role bad in
    filled_stop tags Free table f.at front code.DataLength few (not_over f.at front (omega (arith, h.later, h.within))) (rw (is.0, is.1) refl)

-- it went into the table
length_step : (tags : List Pair) (table : List FixField) (front : List ℕ) (f : FixField) (tag many : ℕ) → FoundAt field_read front f.at f → length table < 4096 → is_locked f.tag ≡ false → role_of tags f.tag ≡ Length tag →
    fits_length tag f front ≡ true → many ≡ digits_value 10 (take (f.to - f.from) (drop f.from front)) → filled tags Free table f.at front ≡ filled tags (Owes tag many) (table ++ (f ∷ [])) (f.to + 1) front
length_step tags table front f tag many h few free role good number =
    let is = length_fits tags front f tag true h free role good in
    let role_too : role_of tags h.field.tag ≡ Length tag = ap (role_of tags) (sym (tag_same field_read front f.at f h)) ∙ role in
    let amount : digits_value 10 h.field.value ≡ many = ap (digits_value 10) h.value_is ∙ sym number in
    filled_step tags Free table f.at front f h.field (f.to + 1) few (not_over f.at front (omega (arith, h.later, h.within))) (rw (is.0, is.1) refl) h.placed_is (next_place field_read front f.at f h)
    ∙ ap (λ r. filled tags (owed_by r h.field) (table ++ (f ∷ [])) (f.to + 1) front) role_too
    ∙ ap (λ n. filled tags (Owes tag n) (table ++ (f ∷ [])) (f.to + 1) front) amount

pub no_number : (tag : ℕ) (f : FixField) (front : List ℕ) → is_number (take (f.to - f.from) (drop f.from front)) ≡ false → fits_length tag f front ≡ false
no_number tag f front h = rw h refl

pub no_tag : (tag : ℕ) (f : FixField) (front : List ℕ) → tag_read (drop (f.to + 1) front) ≡ None → fits_length tag f front ≡ false
no_tag tag f front h = rw h (and_false _)
  where
    and_false : (b : Bool) → b && false ≡ false
    and_false true = refl
    and_false false = refl

pub zero_many : (tag many : ℕ) (f : FixField) (front : List ℕ) → is_number (take (f.to - f.from) (drop f.from front)) ≡ true → many ≡ digits_value 10 (take (f.to - f.from) (drop f.from front)) → many ≡ 0 → fits_length tag f front ≡ false
zero_many tag many f front h number none = rw (h, ← number, none) refl

pub other_tag : (tag found from : ℕ) (f : FixField) (front : List ℕ) → TagAt front (f.to + 1) found from → found ≢ tag → fits_length tag f front ≡ false
other_tag tag found from f front t other = rw (t.found, ne_eqb found tag other) (and_false _)
  where
    and_false : (b : Bool) → b && false ≡ false
    and_false true = refl
    and_false false = refl

good_length : (tag many found from : ℕ) (f : FixField) (front : List ℕ) → is_number (take (f.to - f.from) (drop f.from front)) ≡ true → many ≡ digits_value 10 (take (f.to - f.from) (drop f.from front)) → many ≢ 0 → TagAt front (f.to + 1) found from → found ≡ tag →
    fits_length tag f front ≡ true
good_length tag many found from f front h number some t same = rw (h, ← number, lt-ltb 0 many (omega arith), t.found, eq-eqb found tag same) refl

-- ---- the same, as the code tells it

pub refused : (tags : List Pair) (before after : List FixField) (front : List ℕ) (f : FixField) (tag : ℕ) → FoundAt field_read front f.at f → length before < 4096 → is_locked f.tag ≡ false → role_of tags f.tag ≡ Length tag →
    fits_length tag f front ≡ false → Passes tags front (cursor before f.at) after (Err (fault_at code.DataLength f.at))
refused tags before after front f tag h few free role bad = record { moved = tt; told = length_stop tags before front f tag h few free role bad }

-- ---- the data field

exact_is : (front : List ℕ) (from to many : ℕ) → from ≤ length front → to ≡ from + many → (nat_lt many (length (drop from front)) && (get_or (drop from front) many 0 == soh)) ≡ ends_at to front
exact_is front from to many within is =
    let here : get_or (drop from front) many 0 ≡ get_or front to 0 = get_or-drop from front many 0 ∙ ap (λ k. get_or front k 0) (sym is) in
    let long : length (drop from front) ≡ length front - from = length-drop from front in
    let test : nat_lt many (length (drop from front)) ≡ nat_lt to (length front) = grind (arith, nat_tests) in
    rw (here, test) refl

data_found : (front : List ℕ) (at tag from to many : ℕ) → TagAt front at tag from → to ≡ from + many → ends_at to front ≡ true →
    data_read tag many (drop at front) ≡ Some (record { tag = tag; value = take many (drop from front) }, drop (to + 1) front)
data_found front at tag from to many t is good =
    let next : from + suc many ≡ to + 1 = omega arith in
    rw (t.found, exact_is front from to many t.within is, good, eq-eqb tag tag refl, drop-drop (suc many) from front, next) refl

data_lacks : (front : List ℕ) (at tag from to many : ℕ) → TagAt front at tag from → to ≡ from + many → ends_at to front ≡ false → data_read tag many (drop at front) ≡ None
data_lacks front at tag from to many t is bad = rw (t.found, exact_is front from to many t.within is, bad) refl

-- ---- a length field and its data field, as the code goes over them

-- what is known of a length field that is not refused
pub record IsLengthField (tags : List Pair) (before : List FixField) (front : List ℕ) (f : FixField) (tag many : ℕ) : Type 0 where
  pub found : FoundAt field_read front f.at f
  pub few : length before < 4096
  pub free : is_locked f.tag ≡ false
  pub role : role_of tags f.tag ≡ Length tag
  pub fits : fits_length tag f front ≡ true
  pub number : many ≡ digits_value 10 (take (f.to - f.from) (drop f.from front))

pub is_length : (tags : List Pair) (before : List FixField) (front : List ℕ) (f : FixField) (tag many next from : ℕ) → FoundAt field_read front f.at f → length before < 4096 → is_locked f.tag ≡ false → role_of tags f.tag ≡ Length tag →
    (is_number (take (f.to - f.from) (drop f.from front)) ≡ true) × (many ≡ digits_value 10 (take (f.to - f.from) (drop f.from front))) → many ≢ 0 → TagAt front (f.to + 1) next from → next ≡ tag → IsLengthField tags before front f tag many
is_length tags before front f tag many next from h few free role number some t same =
    record { found = h; few = few; free = free; role = role; fits = good_length tag many next from f front number.0 number.1 some t same; number = number.1 }

length_in : (tags : List Pair) (before : List FixField) (front : List ℕ) (f : FixField) (tag many : ℕ) → IsLengthField tags before front f tag many →
    filled tags Free before f.at front ≡ filled tags (Owes tag many) (before ++ (f ∷ [])) (f.to + 1) front
length_in tags before front f tag many l = length_step tags before front f tag many l.found l.few l.free l.role l.fits l.number

pub no_room : (tags : List Pair) (before after : List FixField) (front : List ℕ) (f : FixField) (tag many : ℕ) → IsLengthField tags before front f tag many → length (before ++ (f ∷ [])) ≡ 4096 →
    Passes tags front (cursor before f.at) after (Err (fault_at code.TooMany (f.to + 1)))
no_room tags before after front f tag many l full = record { moved = tt; told = length_in tags before front f tag many l ∙ filled_full tags (Owes tag many) (before ++ (f ∷ [])) (f.to + 1) front full }

pub no_data : (tags : List Pair) (before after : List FixField) (front : List ℕ) (f : FixField) (tag many from to : ℕ) → IsLengthField tags before front f tag many → length (before ++ (f ∷ [])) < 4096 →
    TagAt front (f.to + 1) tag from → to ≡ from + many → ends_at to front ≡ false → Passes tags front (cursor before f.at) after (Err (fault_at code.DataLength (f.to + 1)))
no_data tags before after front f tag many from to l few t is bad = record {
  moved = tt;
  told = length_in tags before front f tag many l
      ∙ filled_stop tags (Owes tag many) (before ++ (f ∷ [])) (f.to + 1) front code.DataLength few refl (rw (data_lacks front (f.to + 1) tag from to many t is bad) refl);
}

pub both_in : (tags : List Pair) (before after : List FixField) (front : List ℕ) (f : FixField) (tag many from to : ℕ) → IsLengthField tags before front f tag many → length (before ++ (f ∷ [])) < 4096 →
    TagAt front (f.to + 1) tag from → to ≡ from + many → ends_at to front ≡ true →
    after ≡ (before ++ (f ∷ [])) ++ (record { tag = tag; at = f.to + 1; from = from; to = to } ∷ []) → Passes tags front (cursor before f.at) after (Ok (to + 1))
both_in tags before after front f tag many from to l few t is good all =
    let g : Field = record { tag = tag; value = take many (drop from front) } in
    let within : to < length front = ltb-true to (length front) (both (nat_lt to (length front)) (get_or front to 0 == soh) good).0 in
    let start : from ≡ f.to + 1 + length (tag_bytes tag) = tag_length front (f.to + 1) tag from t in
    let long : length (take many (drop from front)) ≡ many = length-take-le many (drop from front) (omega (arith, length-drop from front)) in
    let here : record { tag = tag; at = f.to + 1; from = from; to = to } ≡ placed_at (f.to + 1) g =
    same_field tag (f.to + 1) from (f.to + 1 + length (tag_bytes tag)) to (f.to + 1 + length (tag_bytes tag) + length (take many (drop from front))) start (omega (arith, start, long)) in
    let next : to + 1 ≡ f.to + 1 + length (field_bytes g) = omega (arith, start, long, field_long g) in
    let step_in : filled tags (Owes tag many) (before ++ (f ∷ [])) (f.to + 1) front ≡ filled tags Free ((before ++ (f ∷ [])) ++ (record { tag = tag; at = f.to + 1; from = from; to = to } ∷ [])) (to + 1) front =
    filled_step tags (Owes tag many) (before ++ (f ∷ [])) (f.to + 1) front (record { tag = tag; at = f.to + 1; from = from; to = to }) g (to + 1) few refl
    (rw (data_found front (f.to + 1) tag from to many t is good) refl) here next in
    record {
      moved = (length_in tags before front f tag many l ∙ step_in ∙ ap (λ x. filled tags Free x (to + 1) front) (sym all), omega (arith, l.found.later, t.later, is), omega arith);
      told = tt;
    }

-- what the test of a table tells
pub full_is : (now table : List FixField) (b : Bool) → now ≡ table → b ≡ (length now == 4096) → b ≡ true → length table ≡ 4096
full_is now table b same test is = ap length (sym same) ∙ eqb-true (length now) 4096 (sym test ∙ is)

pub room_left : (now table : List FixField) (b : Bool) → now ≡ table → b ≡ (length now == 4096) → length now ≤ 4096 → b ≡ false → length table < 4096
room_left now table b same test few is =
    let long : length now ≡ length table = ap length same in
    let other : length now ≢ 4096 = λ e. false≢true (sym is ∙ test ∙ eq-eqb (length now) 4096 e) in
    omega arith
