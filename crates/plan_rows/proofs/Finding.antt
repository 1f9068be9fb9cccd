-- What a level has of a tag, by the first place of the tag among the ids of its parts.
use Rattle.std.proofs.Common.{◌≡◌, ℕ, ◌+◌, ◌-◌, ◌≤◌, ◌<◌, zero, suc, Bool, true, false, arith, List, [], ◌∷◌, map, length, Option, Some, None, refl, sym, ap, ◌∙◌, subst}
use Rattle.std.specs.Prelude.{slice_get, nat_eq, ◌==◌, if◌then◌else◌}
use Rattle.std.proofs.lemmas.Option.{same_Some}
use Rattle.std.specs.List.{All}
use Rattle.std.proofs.lemmas.List.Elements.{All-head, All-tail}
use denote.Hole.Carrier as carrier
use Rattle.sbe_types.specs.declared.schema.Group as groups
use Rattle.sbe_types.specs.declared.schema.Field.{Field}
use Rattle.sbe_types.specs.declared.schema.DataField.{DataField}
use Rattle.sbe_types.specs.declared.schema.Group.{Group, Group', out-Group}
use Rattle.sbe_types.specs.declared.schema.Level.{Level, out-Level}
use Rattle.id_tables.specs.Places.{place_by, place_of}
use Rattle.bridge_terms.specs.Plans.{Slot}
use Rattle.bridge_plan.specs.Mappings.{Mapping}
use Rattle.bridge_plan.specs.Covers.{field_slot, data_slot, group_of, group_tag, groups_in, level_in}
use Rattle.bridge_plan.proofs.PlanParts.{groups_same}
use Rattle.bridge_cover.specs.Kinds.{GroupHasKinds, HasKindsInOrder}
use Rattle.bridge_cover.proofs.Kinded.{group_kinds, inner_kinds}
use Rattle.level_places.proofs.Gathering.{nat_turned}
use Rattle.plan_rows.specs.Found.{group_id, field_slot_by, data_slot_by}

-- ---- the first of a tag

-- what is made of the first item with this tag, of which the first is number k
abbrev first_with : {X Y : Type 0} → (X → ℕ) → ℕ → (ℕ → X → Option Y) → ℕ → List X → Option Y
first_with id tag make k [] = None
first_with id tag make k (x ∷ xs) = if id x == tag then make k x else first_with id tag make (suc k) xs

next_number : (k : ℕ) → suc k ≡ k + 1
next_number k = omega arith

module _ {X Y : Type 0} (id : X → ℕ) (tag : ℕ) (make : ℕ → X → Option Y) where
  -- an item that was found, and what is made of it
  abbrev IsFirst : ℕ → ℕ → List X → Type 0
  IsFirst k i xs = (item : X) × (slice_get xs (i - k) ≡ Some item) × (k ≤ i) × (first_with id tag make k xs ≡ make i item)

  step : (p q : Bool) → q ≡ p → (k i : ℕ) (x : X) (xs : List X) (more : Option ℕ) → (if p then Some k else more) ≡ Some i → (more ≡ Some i → IsFirst (k + 1) i xs) →
      (item : X) × (slice_get (x ∷ xs) (i - k) ≡ Some item) × (k ≤ i) × ((if q then make k x else first_with id tag make (suc k) xs) ≡ make i item)
  step true false e k i x xs more h f = cc
  step false true e k i x xs more h f = cc
  step true true e k i x xs more h f =
      let same : k ≡ i = same_Some k i h in
      let first : i - k ≡ 0 = omega arith in
      (x, ap (slice_get (x ∷ xs)) first, omega arith, ap (λ n. make n x) same)
  step false false e k i x xs more h f =
      let later = f h in
      let above : k + 1 ≤ i = later.2 in
      let next : i - k ≡ suc (i - (k + 1)) = omega arith in
      (later.0, ap (slice_get (x ∷ xs)) next ∙ later.1, omega arith, ap (λ n. first_with id tag make n xs) (next_number k) ∙ later.3)

  first_from : (k i : ℕ) (xs : List X) → place_by (nat_eq tag) k (map id xs) ≡ Some i → IsFirst k i xs
  first_from k i [] h = cc
  first_from k i (x ∷ xs) h = step (nat_eq tag (id x)) (id x == tag) (nat_turned (id x) tag) k i x xs (place_by (nat_eq tag) (k + 1) (map id xs)) h (first_from (k + 1) i xs)

  none_step : (p q : Bool) → q ≡ p → (k : ℕ) (x : X) (xs : List X) (more : Option ℕ) → (if p then Some k else more) ≡ None → (more ≡ None → first_with id tag make (k + 1) xs ≡ None) →
      (if q then make k x else first_with id tag make (suc k) xs) ≡ None
  none_step true true e k x xs more h f = cc
  none_step true false e k x xs more h f = cc
  none_step false true e k x xs more h f = cc
  none_step false false e k x xs more h f = ap (λ n. first_with id tag make n xs) (next_number k) ∙ f h

  none_from : (k : ℕ) (xs : List X) → place_by (nat_eq tag) k (map id xs) ≡ None → first_with id tag make k xs ≡ None
  none_from k [] h = refl
  none_from k (x ∷ xs) h = none_step (nat_eq tag (id x)) (id x == tag) (nat_turned (id x) tag) k x xs (place_by (nat_eq tag) (k + 1) (map id xs)) h (none_from (k + 1) xs)

  -- the item at the first place of the tag, and what is made of it
  found_at : (i : ℕ) (xs : List X) → place_of tag (map id xs) ≡ Some i → (item : X) × (slice_get xs i ≡ Some item) × (first_with id tag make 0 xs ≡ make i item)
  found_at i xs h =
      let own = first_from 0 i xs h in
      let e : i ≡ i - 0 = omega arith in
      (own.0, ap (slice_get xs) e ∙ own.1, own.3)

-- ---- what holds of each

pub held_at : {X : Type 0} (P : X → Type 0) (xs : List X) (i : ℕ) (x : X) → All P xs → slice_get xs i ≡ Some x → P x
held_at P [] i x all h = cc
held_at P (y ∷ xs) zero x all h = subst P (same_Some y x h) (All-head P y xs all)
held_at P (y ∷ xs) (suc i) x all h = held_at P xs i x (All-tail P y xs all) h

pub within : {X : Type 0} (xs : List X) (i : ℕ) (x : X) → slice_get xs i ≡ Some x → i < length xs
within [] i x h = cc
within (y ∷ xs) zero x h = omega arith
within (y ∷ xs) (suc i) x h = let more : i < length xs = within xs i x h in omega arith

-- ---- fields, data and groups

abbrev field_make : Mapping → ℕ → ℕ → Field → Option Slot
field_make m tag i f = field_slot_by m tag i f.kind

abbrev data_make : Mapping → ℕ → ℕ → DataField → Option Slot
data_make m tag i d = data_slot_by m tag i d

abbrev group_make : ℕ → Group → Option (ℕ × Group)
group_make i g = Some (i, g)

fields_same : (m : Mapping) (tag k : ℕ) (fs : List Field) → field_slot m tag k fs ≡ first_with (λ (f : Field). f.id) tag (field_make m tag) k fs
fields_same m tag k [] = refl
fields_same m tag k (f ∷ fs) = ap (λ o. if f.id == tag then field_slot_by m tag k f.kind else o) (fields_same m tag (suc k) fs)

data_same : (m : Mapping) (tag k : ℕ) (ds : List DataField) → data_slot m tag k ds ≡ first_with (λ (d : DataField). d.id) tag (data_make m tag) k ds
data_same m tag k [] = refl
data_same m tag k (d ∷ ds) = ap (λ o. if d.id == tag then data_slot_by m tag k d else o) (data_same m tag (suc k) ds)

id_same : (g : Group) → group_tag g ≡ group_id g
unfolding groups.out-Group carrier.out
id_same (Group' dim level) = refl

pub level_same : (g : Group) → (out-Group g).level ≡ level_in g
unfolding groups.out-Group carrier.out
level_same (Group' dim level) = refl

groups_found : (tag k : ℕ) (gs : List Group) → group_of tag k gs ≡ first_with group_id tag group_make k gs
groups_found tag k [] = refl
groups_found tag k (g ∷ gs) =
    ap (λ o. if group_tag g == tag then Some (k, g) else o) (groups_found tag (suc k) gs) ∙ ap (λ n. if n == tag then Some (k, g) else first_with group_id tag group_make (suc k) gs) (id_same g)

-- a field at the first place of its id has the slot
pub field_placed : (m : Mapping) (tag i : ℕ) (fs : List Field) → place_of tag (map (λ (f : Field). f.id) fs) ≡ Some i →
    (f : Field) × (slice_get fs i ≡ Some f) × (field_slot m tag 0 fs ≡ field_slot_by m tag i f.kind)
field_placed m tag i fs h =
    let own = found_at (λ (f : Field). f.id) tag (field_make m tag) i fs h in
    (own.0, own.1, fields_same m tag 0 fs ∙ own.2)

pub field_unplaced : (m : Mapping) (tag : ℕ) (fs : List Field) → place_of tag (map (λ (f : Field). f.id) fs) ≡ None → field_slot m tag 0 fs ≡ None
field_unplaced m tag fs h = fields_same m tag 0 fs ∙ none_from (λ (f : Field). f.id) tag (field_make m tag) 0 fs h

-- and so has a data
pub data_placed : (m : Mapping) (tag i : ℕ) (ds : List DataField) → place_of tag (map (λ (d : DataField). d.id) ds) ≡ Some i →
    (d : DataField) × (slice_get ds i ≡ Some d) × (data_slot m tag 0 ds ≡ data_slot_by m tag i d)
data_placed m tag i ds h =
    let own = found_at (λ (d : DataField). d.id) tag (data_make m tag) i ds h in
    (own.0, own.1, data_same m tag 0 ds ∙ own.2)

pub data_unplaced : (m : Mapping) (tag : ℕ) (ds : List DataField) → place_of tag (map (λ (d : DataField). d.id) ds) ≡ None → data_slot m tag 0 ds ≡ None
data_unplaced m tag ds h = data_same m tag 0 ds ∙ none_from (λ (d : DataField). d.id) tag (data_make m tag) 0 ds h

-- and a group
pub group_placed : (tag i : ℕ) (gs : List Group) → place_of tag (map group_id gs) ≡ Some i → (g : Group) × (slice_get gs i ≡ Some g) × (group_of tag 0 gs ≡ Some (i, g))
group_placed tag i gs h =
    let own = found_at group_id tag group_make i gs h in
    (own.0, own.1, groups_found tag 0 gs ∙ own.2)

pub group_unplaced : (tag : ℕ) (gs : List Group) → place_of tag (map group_id gs) ≡ None → group_of tag 0 gs ≡ None
group_unplaced tag gs h = groups_found tag 0 gs ∙ none_from group_id tag group_make 0 gs h

-- the group of a tag in a level, by the ids of its groups
pub group_at : (tag i : ℕ) (level : Level) (ids : List ℕ) (place : Option ℕ) (g : Group) → place ≡ place_of tag ids → ids ≡ map group_id (out-Level level).groups → place ≡ Some i →
    slice_get (out-Level level).groups i ≡ Some g → group_of tag 0 (groups_in level) ≡ Some (i, g)
group_at tag i level ids place g is named some at =
    let own = group_placed tag i (out-Level level).groups (sym (is ∙ ap (place_of tag) named) ∙ some) in
    let same : own.0 ≡ g = same_Some own.0 g (sym own.1 ∙ at) in
    ap (λ gs. group_of tag 0 gs) (sym (groups_same level)) ∙ own.2 ∙ ap (λ g. Some (i, g)) same

pub no_group_at : (tag : ℕ) (level : Level) (ids : List ℕ) (place : Option ℕ) → place ≡ place_of tag ids → ids ≡ map group_id (out-Level level).groups → place ≡ None →
    group_of tag 0 (groups_in level) ≡ None
no_group_at tag level ids place is named none =
    ap (λ gs. group_of tag 0 gs) (sym (groups_same level)) ∙ group_unplaced tag (out-Level level).groups (sym (is ∙ ap (place_of tag) named) ∙ none)

-- the kinds of a group's fields are in order
pub group_order : (level : Level) (i : ℕ) (g : Group) → HasKindsInOrder level → slice_get (out-Level level).groups i ≡ Some g → HasKindsInOrder (out-Group g).level
group_order level i g order at = inner_kinds g (held_at GroupHasKinds (out-Level level).groups i g (group_kinds level order) at)
