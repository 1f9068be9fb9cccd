-- The datatypes of fields, by the names of code sets and by tags.
use Rattle.std.proofs.Common.{◌≡◌, ℕ, suc, Bool, true, false, List, [], ◌∷◌, Option, Some, None, map, is_some, refl, sym, ap, ◌∙◌, arith, ◌+◌, ◌-◌, ◌≤◌}
use Rattle.std.specs.Prelude.{slice_get, option_map, nat_eq, ◌==◌, if◌then◌else◌, bytes_eq}
use Rattle.std.proofs.lemmas.Bool.{eqb-true}
use Rattle.std.proofs.lemmas.Slice.Eq.{bytes_eq-Decides}
use Rattle.std.proofs.lemmas.Option.{same_Some, slice_get-map}
use Rattle.id_tables.specs.Places.{place_by, name_place, place_of}
use Rattle.map_types.specs.declared.tree.CodeSetEl.{CodeSetEl}
use Rattle.map_types.specs.declared.tree.FieldEl.{FieldEl}
use Rattle.bridge_rules.specs.Datatypes.{Datatype, unbridged}
use Rattle.bridge_rules.proofs.BoolLemmas.{same_self}
use Rattle.bridge_table.specs.declared.datatype.Datatype.{Datatype as FieldDatatype}
use Rattle.bridge_table.specs.Codes.{datatype_of_row}
use Rattle.field_types.specs.FieldTypes.{set_type, set_named, type_by, standard_type, field_type}
use Rattle.bridge_plan.specs.Mappings.{datatype_in}
use Rattle.bridge_mapping.specs.declared.datatypes.TypedField.{TypedField}
use Rattle.bridge_mapping.specs.Tables.{type_or, AreSets}

same_bool : (p q : Bool) → (p ≡ true → q ≡ true) → (q ≡ true → p ≡ true) → p ≡ q
same_bool true true f g = refl
same_bool true false f g = sym (f refl)
same_bool false true f g = g refl
same_bool false false f g = refl

-- two names are equal the other way round
pub turned : (a b : List ℕ) → bytes_eq a b ≡ bytes_eq b a
turned a b =
    same_bool (bytes_eq a b) (bytes_eq b a) (λ h. (bytes_eq-Decides b a).1 (sym ((bytes_eq-Decides a b).0 h)))
    (λ h. (bytes_eq-Decides a b).1 (sym ((bytes_eq-Decides b a).0 h)))

from_step : (p : Bool) (k i : ℕ) (more : Option ℕ) → (if p then Some k else more) ≡ Some i → (more ≡ Some i → k + 1 ≤ i) → k ≤ i
from_step true k i more h f = let e : k ≡ i = same_Some k i h in omega arith
from_step false k i more h f = let le : k + 1 ≤ i = f h in omega arith

pub from_there : {X : Type 0} (test : X → Bool) (k i : ℕ) (xs : List X) → place_by test k xs ≡ Some i → k ≤ i
from_there test k i [] h = cc
from_there test k i (x ∷ xs) h = from_step (test x) k i (place_by test (k + 1) xs) h (from_there test (k + 1) i xs)

-- ---- what is found by a key in a list, where a table of the keys tells the place

-- the first item of a key, by another test of keys
abbrev pub sought : {A K Y : Type 0} → (K → Bool) → (A → K) → (A → Y) → Y → List A → Y
sought test key value other [] = other
sought test key value other (x ∷ xs) = if test (key x) then value x else sought test key value other xs

module _ {A K Y : Type 0} (test : K → Bool) (key : A → K) (value : A → Y) (other : Y) where
  none_step : (p : Bool) (k : ℕ) (more : Option ℕ) (own rest : Y) → (if p then Some k else more) ≡ None → (more ≡ None → rest ≡ other) →
      (if p then own else rest) ≡ other
  none_step true k more own rest h f = cc
  none_step false k more own rest h f = f h

  pub sought_none : (k : ℕ) (xs : List A) → place_by test k (map key xs) ≡ None → sought test key value other xs ≡ other
  sought_none k [] h = refl
  sought_none k (x ∷ xs) h = none_step (test (key x)) k (place_by test (k + 1) (map key xs)) (value x) (sought test key value other xs) h (sought_none (k + 1) xs)

  found_step : (p : Bool) (k i : ℕ) (more : Option ℕ) (x own : A) (xs : List A) (rest : Y) → (if p then Some k else more) ≡ Some i →
      slice_get (x ∷ xs) (i - k) ≡ Some own → (more ≡ Some i → k + 1 ≤ i) → (more ≡ Some i → slice_get xs (i - (k + 1)) ≡ Some own → rest ≡ value own) →
      (if p then value x else rest) ≡ value own
  found_step true k i more x own xs rest h at le f =
      let same : k ≡ i = same_Some k i h in
      let first : i - k ≡ 0 = omega arith in
      ap value (same_Some x own (ap (slice_get (x ∷ xs)) (sym first) ∙ at))
  found_step false k i more x own xs rest h at le f =
      let above : k + 1 ≤ i = le h in
      let next : i - k ≡ suc (i - (k + 1)) = omega arith in
      f h (ap (slice_get (x ∷ xs)) (sym next) ∙ at)

  found_from : (k i : ℕ) (xs : List A) → place_by test k (map key xs) ≡ Some i → (own : A) → slice_get xs (i - k) ≡ Some own →
      sought test key value other xs ≡ value own
  found_from k i [] h own at = cc
  found_from k i (x ∷ xs) h own at =
      found_step (test (key x)) k i (place_by test (k + 1) (map key xs)) x own xs (sought test key value other xs) h at
      (from_there test (k + 1) i (map key xs)) (λ g there. found_from (k + 1) i xs g own there)

  pub sought_at : (i : ℕ) (xs : List A) → place_by test 0 (map key xs) ≡ Some i → (own : A) → slice_get xs i ≡ Some own →
      sought test key value other xs ≡ value own
  sought_at i xs h own at = let e : i - 0 ≡ i = omega arith in found_from 0 i xs h own (ap (slice_get xs) e ∙ at)

-- ---- tags

pub if_by : {Y : Type 0} (p q : Bool) (x y z : Y) → p ≡ q → y ≡ z → (if p then x else y) ≡ (if q then x else z)
if_by p q x y z e f = λ j. if e j then x else f j

pub nat_turned : (a b : ℕ) → nat_eq a b ≡ nat_eq b a
nat_turned a b =
    same_bool (nat_eq a b) (nat_eq b a) (λ h. ap (nat_eq b) (eqb-true a b h) ∙ same_self b) (λ h. ap (nat_eq a) (eqb-true b a h) ∙ same_self a)

module _ (meaning : TypedField → Datatype) (tag : ℕ) where
  abbrev pair : TypedField → ℕ × Datatype
  pair f = (f.tag, meaning f)

  abbrev tag_in : TypedField → ℕ
  tag_in f = f.tag

  datatype_sought : (fs : List TypedField) → datatype_in tag (map pair fs) ≡ sought (nat_eq tag) tag_in meaning unbridged fs
  datatype_sought [] = refl
  datatype_sought (f ∷ fs) =
      if_by (f.tag == tag) (nat_eq tag f.tag) (meaning f) (datatype_in tag (map pair fs)) (sought (nat_eq tag) tag_in meaning unbridged fs) (nat_turned f.tag tag) (datatype_sought fs)

  pub datatype_none : (fs : List TypedField) → place_of tag (map tag_in fs) ≡ None → datatype_in tag (map pair fs) ≡ unbridged
  datatype_none fs h = datatype_sought fs ∙ sought_none (nat_eq tag) tag_in meaning unbridged 0 fs h

  pub datatype_at : (i : ℕ) (fs : List TypedField) → place_of tag (map tag_in fs) ≡ Some i → (own : TypedField) → slice_get fs i ≡ Some own →
      datatype_in tag (map pair fs) ≡ meaning own
  datatype_at i fs h own at = datatype_sought fs ∙ sought_at (nat_eq tag) tag_in meaning unbridged i fs h own at

-- ---- code sets

abbrev name_in : CodeSetEl → List ℕ
name_in s = s.name

set_sought : (name : List ℕ) (sets : List CodeSetEl) → set_named name sets ≡ sought (bytes_eq name) name_in Some None sets
set_sought name [] = refl
set_sought name (s ∷ ss) =
    if_by (bytes_eq s.name name) (bytes_eq name s.name) (Some s) (set_named name ss) (sought (bytes_eq name) name_in Some None ss) (turned s.name name) (set_sought name ss)

or_seen : (o : Option FieldDatatype) (d : Datatype) → option_map datatype_of_row o ≡ Some d → type_or o ≡ d
or_seen None d h = cc
or_seen (Some x) d h = same_Some (datatype_of_row x) d h

within_step : {X : Type 0} (p : Bool) (k i : ℕ) (more : Option ℕ) (x : X) (xs : List X) → (if p then Some k else more) ≡ Some i → (more ≡ Some i →
    k + 1 ≤ i) →
    (more ≡ Some i → (y : X) × (slice_get xs (i - (k + 1)) ≡ Some y)) → (y : X) × (slice_get (x ∷ xs) (i - k) ≡ Some y)
within_step true k i more x xs h le f =
    let same : k ≡ i = same_Some k i h in
    let first : i - k ≡ 0 = omega arith in
    (x, ap (slice_get (x ∷ xs)) first)
within_step false k i more x xs h le f =
    let above : k + 1 ≤ i = le h in
    let next : i - k ≡ suc (i - (k + 1)) = omega arith in
    let there : (y : _) × (slice_get xs (i - (k + 1)) ≡ Some y) = f h in
    (there.0, ap (slice_get (x ∷ xs)) next ∙ there.1)

within : {X : Type 0} (test : List ℕ → Bool) (key : X → List ℕ) (k i : ℕ) (xs : List X) → place_by test k (map key xs) ≡ Some i →
    (x : X) × (slice_get xs (i - k) ≡ Some x)
within test key k i [] h = cc
within test key k i (x ∷ xs) h =
    within_step (test (key x)) k i (place_by test (k + 1) (map key xs)) x xs h (from_there test (k + 1) i (map key xs)) (within test key (k + 1) i xs)

module _ (sets : List CodeSetEl) (names : List (List ℕ)) (types : List FieldDatatype) (is : AreSets sets names types) (f : FieldEl) where
  pub of_set : (i : ℕ) → name_place f.type_name names ≡ Some i → type_or (slice_get types i) ≡ field_type sets f
  of_set i h =
      let at : name_place f.type_name (map name_in sets) ≡ Some i = ap (name_place f.type_name) (sym is.named) ∙ h in
      let e : i - 0 ≡ i = omega arith in
      let there : (s : CodeSetEl) × (slice_get sets (i - 0) ≡ Some s) = within (bytes_eq f.type_name) name_in 0 i sets at in
      let own : slice_get sets i ≡ Some there.0 = ap (slice_get sets) (sym e) ∙ there.1 in
      let found : set_named f.type_name sets ≡ Some there.0 = set_sought f.type_name sets
      ∙ sought_at (bytes_eq f.type_name) name_in Some None i sets at there.0 own in
      or_seen (slice_get types i) (set_type there.0)
      (sym (slice_get-map datatype_of_row types i) ∙ ap (λ (ts : List Datatype). slice_get ts i) is.meant ∙ slice_get-map set_type sets i
      ∙ ap (option_map set_type) own)
      ∙ ap (type_by (is_some f.length_id) f.type_name) (sym found)

  pub of_name : name_place f.type_name names ≡ None → standard_type (is_some f.length_id) f.type_name ≡ field_type sets f
  of_name h =
      let at : name_place f.type_name (map name_in sets) ≡ None = ap (name_place f.type_name) (sym is.named) ∙ h in
      ap (type_by (is_some f.length_id) f.type_name) (sym (set_sought f.type_name sets ∙ sought_none (bytes_eq f.type_name) name_in Some None 0 sets at))
