-- The first place of a structure, by the rows that it begins with, and the places that follow.
use Rattle.std.proofs.Common.{◌≡◌, ◌≤◌, ◌<◌, ℕ, suc, ◌+◌, ◌-◌, Bool, true, false, List, [], ◌∷◌, ◌++◌, Option, Some, None, length, take, drop, is_some, refl, sym, ap, ◌∙◌, arith, length-append, get_or, Bor}
use Rattle.std.specs.Prelude.{slice_get, MatchOption, nat_eq, ◌||◌, ◌==◌, if◌then◌else◌}
use Rattle.std.proofs.lemmas.Bool.{eqb-true, eq-eqb}
use Rattle.std.proofs.lemmas.List.{map-append}
use Rattle.std.proofs.lemmas.Option.{same_Some}
use Rattle.id_tables.specs.Places.{place_by, place_of}
use Rattle.reference_graph.specs.Expansion.{Structure, ended, plain, counted}
use Rattle.structure_rows.specs.declared.row.PlaceRow.{PlaceRow}
use Rattle.structure_rows.specs.Rows.{field_row, group_row, rows_of}
use Rattle.bridge_plan.specs.Mappings.{is_plain, inner_of}
use Rattle.level_places.specs.Places.{field_tags, group_tags, entry_rows, lent_rows, FirstPlace, a_field, a_group, Gathers}

own_front : {X : Type 0} (xs ys : List X) → take (length xs) (xs ++ ys) ≡ xs
own_front [] ys = refl
own_front (x ∷ xs) ys = ap (λ zs. x ∷ zs) (own_front xs ys)

own_rest : {X : Type 0} (xs ys : List X) → drop (length xs) (xs ++ ys) ≡ ys
own_rest [] ys = refl
own_rest (x ∷ xs) ys = own_rest xs ys

head_is : {X : Type 0} (x y : X) (xs ys : List X) → x ∷ xs ≡ y ∷ ys → x ≡ y
head_is {X} x y xs ys h = same_Some x y (ap (λ (zs : List X). slice_get zs 0) h)

tail_is : {X : Type 0} (x y : X) (xs ys : List X) → x ∷ xs ≡ y ∷ ys → xs ≡ ys
tail_is x y xs ys h = ap (drop 1) h

-- a row without entries is a field's
pub first_field : (s : Structure) (row : PlaceRow) (rest : List PlaceRow) → row ∷ rest ≡ rows_of s → row.entries ≡ None → FirstPlace s row.tag None rest
first_field ended row rest h none = cc
first_field (plain tag more) row rest h none =
    let same : row ≡ field_row tag = head_is row (field_row tag) rest (rows_of more) h in
    a_field more (ap (λ (r : PlaceRow). plain r.tag more) (sym same)) refl (tail_is row (field_row tag) rest (rows_of more) h)
first_field (counted tag inner more) row rest h none =
    let same : row ≡ group_row tag (length (rows_of inner)) = head_is row (group_row tag (length (rows_of inner))) rest (rows_of inner ++ rows_of more) h in
    let other : None ≡ Some (length (rows_of inner)) = sym none ∙ ap (λ (r : PlaceRow). r.entries) same in
    cc

-- one with so many is a group's, and as many rows are those of its entries
pub first_group : (s : Structure) (row : PlaceRow) (rest : List PlaceRow) (many : ℕ) → row ∷ rest ≡ rows_of s → row.entries ≡ Some many →
    (inner more : Structure) × (s ≡ counted row.tag inner more) × (many ≡ length (rows_of inner)) × (rest ≡ rows_of inner ++ rows_of more)
first_group ended row rest many h some = cc
first_group (plain tag more) row rest many h some =
    let same : row ≡ field_row tag = head_is row (field_row tag) rest (rows_of more) h in
    let other : None ≡ Some many = sym (ap (λ (r : PlaceRow). r.entries) same) ∙ some in
    cc
first_group (counted tag inner more) row rest many h some =
    let same : row ≡ group_row tag (length (rows_of inner)) = head_is row (group_row tag (length (rows_of inner))) rest (rows_of inner ++ rows_of more) h in (
      inner,
      more,
      ap (λ (r : PlaceRow). counted r.tag inner more) (sym same),
      same_Some many (length (rows_of inner)) (sym some ∙ ap (λ (r : PlaceRow). r.entries) same),
      tail_is row (group_row tag (length (rows_of inner))) rest (rows_of inner ++ rows_of more) h,
    )

-- a group, cut where the rows of its entries end
pub group_cut : (s : Structure) (row : PlaceRow) (rest : List PlaceRow) (many : ℕ) → row ∷ rest ≡ rows_of s → row.entries ≡ Some many →
    (many ≤ length rest) × FirstPlace s row.tag (Some (take many rest)) (drop many rest)
group_cut s row rest many h some =
    let g = first_group s row rest many h some in
    let long : length rest ≡ length (rows_of g.0) + length (rows_of g.1) = ap length g.4 ∙ length-append (rows_of g.0) (rows_of g.1) in
    let is : many ≡ length (rows_of g.0) = g.3 in (
      omega arith,
      a_group g.0 g.1 g.2 (ap Some ((λ j. take (is j) (g.4 j)) ∙ own_front (rows_of g.0) (rows_of g.1))) ((λ j. drop (is j) (g.4 j)) ∙ own_rest (rows_of g.0) (rows_of g.1)),
    )

moved : {X : Type 0} (xs : List X) (x : X) (ys : List X) → (xs ++ x ∷ []) ++ ys ≡ xs ++ (x ∷ ys)
moved [] x ys = refl
moved (z ∷ xs) x ys = ap (λ zs. z ∷ zs) (moved xs x ys)

module _ (s left : Structure) (tag : ℕ) (after : List PlaceRow) (fields groups : List ℕ) (entries : List (List PlaceRow)) (g : Gathers s left fields groups entries) where
  pub gathered_field : FirstPlace left tag None after → (more : Structure) × (after ≡ rows_of more) × Gathers s more (fields ++ tag ∷ []) groups entries
  gathered_field (a_field more is none rows) = (
    more,
    rows,
    record {
      fields_rest = moved fields tag (field_tags more) ∙ ap (λ t. fields ++ field_tags t) (sym is) ∙ g.fields_rest;
      groups_rest = ap (λ t. groups ++ group_tags t) (sym is) ∙ g.groups_rest;
      entries_rest = ap (λ t. entries ++ entry_rows t) (sym is) ∙ g.entries_rest;
    },
  )
  gathered_field (a_group inner more is some rows) = cc

  pub gathered_group : (own : List PlaceRow) → FirstPlace left tag (Some own) after →
      (more : Structure) × (after ≡ rows_of more) × Gathers s more fields (groups ++ tag ∷ []) (entries ++ own ∷ [])
  gathered_group own (a_field more is none rows) = cc
  gathered_group own (a_group inner more is some rows) = (
    more,
    rows,
    record {
      fields_rest = ap (λ t. fields ++ field_tags t) (sym is) ∙ g.fields_rest;
      groups_rest = moved groups tag (group_tags more) ∙ ap (λ t. groups ++ group_tags t) (sym is) ∙ g.groups_rest;
      entries_rest =
          ap (λ e. (entries ++ e ∷ []) ++ entry_rows more) (same_Some own (rows_of inner) some) ∙ moved entries (rows_of inner) (entry_rows more)
          ∙ ap (λ t. entries ++ entry_rows t) (sym is) ∙ g.entries_rest;
    },
  )

-- ---- what is found by a tag

same_bool : (p q : Bool) → (p ≡ true → q ≡ true) → (q ≡ true → p ≡ true) → p ≡ q
same_bool true true f g = refl
same_bool true false f g = sym (f refl)
same_bool false true f g = g refl
same_bool false false f g = refl

pub nat_turned : (a b : ℕ) → nat_eq a b ≡ nat_eq b a
nat_turned a b =
    same_bool (nat_eq a b) (nat_eq b a) (λ h. ap (nat_eq b) (eqb-true a b h) ∙ eq-eqb b b refl) (λ h. ap (nat_eq a) (eqb-true b a h) ∙ eq-eqb a a refl)

field_step : (p q : Bool) → q ≡ p → (k : ℕ) (more : Option ℕ) (rest : Bool) → is_some more ≡ rest → is_some (if p then Some k else more) ≡ (q || rest)
field_step true true e k more rest h = refl
field_step true false e k more rest h = cc
field_step false true e k more rest h = cc
field_step false false e k more rest h = h

field_from : (tag k : ℕ) (s : Structure) → is_some (place_by (nat_eq tag) k (field_tags s)) ≡ is_plain tag s
field_from tag k ended = refl
field_from tag k (plain other rest) =
    field_step (nat_eq tag other) (other == tag) (nat_turned other tag) k (place_by (nat_eq tag) (k + 1) (field_tags rest)) (is_plain tag rest) (field_from tag (k + 1) rest)
field_from tag k (counted other inner rest) = field_from tag k rest

-- a tag has a place among the fields where it is a field's
pub field_placed : (tag : ℕ) (s : Structure) → is_some (place_of tag (field_tags s)) ≡ is_plain tag s
field_placed tag s = field_from tag 0 s

inner_step : (p q : Bool) → q ≡ p → (k i : ℕ) (more : Option ℕ) (own : Structure) (rest : Option Structure) (all : List (List PlaceRow)) →
    (if p then Some k else more) ≡ Some i → (more ≡ Some i → k + 1 ≤ i) →
    (more ≡ Some i → (inner : Structure) × (rest ≡ Some inner) × (slice_get all (i - (k + 1)) ≡ Some (rows_of inner))) →
    (inner : Structure) × ((if q then Some own else rest) ≡ Some inner) × (slice_get (rows_of own ∷ all) (i - k) ≡ Some (rows_of inner))
inner_step true false e k i more own rest all h le f = cc
inner_step false true e k i more own rest all h le f = cc
inner_step true true e k i more own rest all h le f =
    let same : k ≡ i = same_Some k i h in
    let first : i - k ≡ 0 = omega arith in
    (own, refl, ap (slice_get (rows_of own ∷ all)) first)
inner_step false false e k i more own rest all h le f =
    let above : k + 1 ≤ i = le h in
    let next : i - k ≡ suc (i - (k + 1)) = omega arith in
    let there = f h in
    (there.0, there.1, ap (slice_get (rows_of own ∷ all)) next ∙ there.2)

from_step : (p : Bool) (k i : ℕ) (more : Option ℕ) → (if p then Some k else more) ≡ Some i → (more ≡ Some i → k + 1 ≤ i) → k ≤ i
from_step true k i more h f = let e : k ≡ i = same_Some k i h in omega arith
from_step false k i more h f = let le : k + 1 ≤ i = f h in omega arith

from_there : (tag k i : ℕ) (xs : List ℕ) → place_by (nat_eq tag) k xs ≡ Some i → k ≤ i
from_there tag k i [] h = cc
from_there tag k i (x ∷ xs) h = from_step (nat_eq tag x) k i (place_by (nat_eq tag) (k + 1) xs) h (from_there tag (k + 1) i xs)

inner_from : (tag k i : ℕ) (s : Structure) → place_by (nat_eq tag) k (group_tags s) ≡ Some i →
    (inner : Structure) × (inner_of tag s ≡ Some inner) × (slice_get (entry_rows s) (i - k) ≡ Some (rows_of inner))
inner_from tag k i ended h = cc
inner_from tag k i (plain other rest) h = inner_from tag k i rest h
inner_from tag k i (counted other own rest) h =
    inner_step (nat_eq tag other) (other == tag) (nat_turned other tag) k i (place_by (nat_eq tag) (k + 1) (group_tags rest)) own (inner_of tag rest) (entry_rows rest) h
    (from_there tag (k + 1) i (group_tags rest)) (inner_from tag (k + 1) i rest)

-- the rows of the entries of a group that has a place
pub inner_placed : (tag i : ℕ) (s : Structure) → place_of tag (group_tags s) ≡ Some i →
    (inner : Structure) × (inner_of tag s ≡ Some inner) × (slice_get (entry_rows s) i ≡ Some (rows_of inner))
inner_placed tag i s h =
    let there = inner_from tag 0 i s h in
    let e : i ≡ i - 0 = omega arith in
    (there.0, there.1, ap (slice_get (entry_rows s)) e ∙ there.2)

none_step : (p q : Bool) → q ≡ p → (k : ℕ) (more : Option ℕ) (own : Structure) (rest : Option Structure) → (if p then Some k else more) ≡ None → (more ≡ None → rest ≡ None) →
    (if q then Some own else rest) ≡ None
none_step true true e k more own rest h f = cc
none_step true false e k more own rest h f = cc
none_step false true e k more own rest h f = cc
none_step false false e k more own rest h f = f h

inner_missing : (tag k : ℕ) (s : Structure) → place_by (nat_eq tag) k (group_tags s) ≡ None → inner_of tag s ≡ None
inner_missing tag k ended h = refl
inner_missing tag k (plain other rest) h = inner_missing tag k rest h
inner_missing tag k (counted other own rest) h =
    none_step (nat_eq tag other) (other == tag) (nat_turned other tag) k (place_by (nat_eq tag) (k + 1) (group_tags rest)) own (inner_of tag rest) h (inner_missing tag (k + 1) rest)

-- a tag without a place among the groups is no group's
pub inner_unplaced : (tag : ℕ) (s : Structure) → place_of tag (group_tags s) ≡ None → inner_of tag s ≡ None
inner_unplaced tag s h = inner_missing tag 0 s h

-- what is told of rows that are lent, where the rows of a group's entries are at the place
pub told_inner : (o : Option (Bor (List PlaceRow))) (at : Option (List PlaceRow)) → MatchOption o (at ≡ None) (λ rows. at ≡ Some rows.now) →
    (tag : ℕ) (s inner : Structure) → inner_of tag s ≡ Some inner → at ≡ Some (rows_of inner) →
    MatchOption o (inner_of tag s ≡ None) (λ rows. (x : Structure) × (inner_of tag s ≡ Some x) × (rows.now ≡ rows_of x))
told_inner None at told tag s inner is there =
    let other : None ≡ Some (rows_of inner) = sym told ∙ there in
    cc
told_inner (Some rows) at told tag s inner is there = (inner, is, same_Some rows.now (rows_of inner) (sym told ∙ there))

-- ---- the loop

all_of : {X : Type 0} (xs : List X) → take (length xs) xs ≡ xs
all_of [] = refl
all_of (x ∷ xs) = ap (λ zs. x ∷ zs) (all_of xs)

-- the first row and those after it
pub first_and_rest : {X : Type 0} (d : X) (xs : List X) → 1 ≤ length xs → get_or xs 0 d ∷ take (length xs - 1) (drop 1 xs) ≡ xs
first_and_rest d [] h = absurd (omega arith)
first_and_rest d (x ∷ xs) h =
    let e : length (x ∷ xs) - 1 ≡ length xs = omega arith in
    ap (λ n. x ∷ take n xs) e ∙ ap (λ zs. x ∷ zs) (all_of xs)

pub lent_pushed : (new old : List (Bor (List PlaceRow))) (x : Bor (List PlaceRow)) → new ≡ old ++ x ∷ [] → lent_rows new ≡ lent_rows old ++ x.now ∷ []
lent_pushed new old x h = ap lent_rows h ∙ map-append (λ (rows : Bor (List PlaceRow)). rows.now) old (x ∷ [])

nil_after : {X : Type 0} (xs : List X) → xs ++ [] ≡ xs
nil_after [] = refl
nil_after (x ∷ xs) = ap (λ zs. x ∷ zs) (nil_after xs)

-- where no rows are left, all places are gathered
pub all_gathered : (s left : Structure) (fields groups : List ℕ) (entries : List (List PlaceRow)) → Gathers s left fields groups entries → length (rows_of left) < 1 →
    (fields ≡ field_tags s) × (groups ≡ group_tags s) × (entries ≡ entry_rows s)
all_gathered s ended fields groups entries g h =
    (sym (nil_after fields) ∙ g.fields_rest, sym (nil_after groups) ∙ g.groups_rest, sym (nil_after entries) ∙ g.entries_rest)
all_gathered s (plain tag more) fields groups entries g h = absurd (omega arith)
all_gathered s (counted tag inner more) fields groups entries g h = absurd (omega arith)
