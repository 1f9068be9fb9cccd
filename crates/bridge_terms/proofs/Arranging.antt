-- A block is the one of its values in the order of the structure.
use Rattle.std.proofs.Common.{◌≡◌, inl, inr, ℕ, zero, suc, ◌<◌, ◌+◌, true, false, List, [], ◌∷◌, ◌++◌, length, map, refl, sym, ap, ◌∙◌, arith}
use Rattle.std.specs.Prelude.{◌||◌, ◌==◌}
use Rattle.std.proofs.lemmas.Bool.{eqb-true}
use Rattle.sbe_types.specs.declared.schema.Level.{Level, out-Level}
use Rattle.sbe_types.specs.declared.message.Value.{Value}
use Rattle.sbe_types.specs.declared.message.Value as value
use Rattle.sbe_types.specs.declared.message.DataVal.{DataVal}
use Rattle.sbe_types.specs.declared.message.DataVal.TheVariants as dataval
use Rattle.sbe_types.specs.declared.message.Block.{Block, out-Block}
use Rattle.sbe_types.specs.declared.message.GroupVal.{GroupVal, Row_of-Block, items-the_row-Block, items_hidden-the_row-Block-1}
use Rattle.sbe_types.specs.declared.message.GroupVal as groupval
use Rattle.bridge_rules.specs.Members.{text_in}
use Rattle.bridge_terms.specs.Plans.{Plan, Place, Each, is_in, done, single, group, in_fields, in_data}
use Rattle.bridge_terms.specs.Blocks.{nth_or, data_value, entries_of, value_at, values_of, PlacedValues, data_of, with_slot, at_number, in_numbers, block_with, placed_values, block_of, field_number, data_number, field_places, data_places, group_places, IsComplete, AreComplete, HasLengths, HasEntries}
use Rattle.bridge_rules.proofs.BoolLemmas.{true_false, either, second_of, if_true, if_false}

-- ---- lists by their numbers

nth_more : {X : Type 0} (none : X) (i : ℕ) (x : X) (xs : List X) → nth_or none (suc i) (x ∷ xs) ≡ nth_or none i xs
nth_more none i x xs = refl

numbered : {X : Type 0} (none : X) (n i : ℕ) (a : List (ℕ × X)) (xs : List X) → length xs ≡ n → ((k : ℕ) → k < n → at_number none (i + k) a ≡ nth_or none k xs) → in_numbers none n i a ≡ xs
numbered none zero i a [] long at = refl
numbered none zero i a (x ∷ xs) long at = absurd (omega (arith, long))
numbered none (suc n) i a [] long at = absurd (omega (arith, long))
numbered {X} none (suc n) i a (x ∷ xs) long at =
    let here : at_number none i a ≡ x = ap (λ j. at_number none j a) (same i) ∙ at 0 (omega arith) in
    let later = numbered none n (suc i) a xs (omega (arith, long)) (λ k less. ap (λ j. at_number none j a) (moved i k) ∙ at (suc k) (omega (arith, less))) in
    ap (λ y. y ∷ in_numbers none n (suc i) a) here ∙ ap (λ ys. x ∷ ys) later
  where
    same : (i : ℕ) → i ≡ i + 0
    same i = omega arith

    moved : (i k : ℕ) → suc i + k ≡ i + suc k
    moved i k = omega arith

all_numbered : {X : Type 0} (none : X) (n : ℕ) (a : List (ℕ × X)) (xs : List X) → length xs ≡ n → ((k : ℕ) → k < n → at_number none k a ≡ nth_or none k xs) → in_numbers none n 0 a ≡ xs
all_numbered none n a xs long at = numbered none n 0 a xs long (λ k less. ap (λ j. at_number none j a) (from_none k) ∙ at k less)
  where
    from_none : (k : ℕ) → 0 + k ≡ k
    from_none k = omega arith

-- ---- what is at the places of a block's own values

data_again : (d : DataVal) → data_of (text_in (data_value d)) ≡ d
data_again dataval.Absent = refl
data_again (dataval.Bytes bytes) = refl

at_front : {X : Type 0} (none : X) (i j : ℕ) (x : X) (a : List (ℕ × X)) (wanted : ℕ → X) → x ≡ wanted j → (is_in i (j ∷ []) ≡ true → at_number none i ((j, x) ∷ a) ≡ wanted i)
at_front none i j x a wanted is here = elim (either (j == i)) [
  | inl t ↦ if_true (j == i) x (at_number none i a) t ∙ is ∙ ap wanted (eqb-true j i t)
  | inr f ↦ true_false here (ap (λ t. t || false) f)
]

at_later : {X : Type 0} (none : X) (i j : ℕ) (ns : List ℕ) (x : X) (a : List (ℕ × X)) (wanted : ℕ → X) → x ≡ wanted j → (is_in i ns ≡ true → at_number none i a ≡ wanted i) →
    is_in i (j ∷ ns) ≡ true → at_number none i ((j, x) ∷ a) ≡ wanted i
at_later none i j ns x a wanted is rest here = elim (either (j == i)) [
  | inl t ↦ if_true (j == i) x (at_number none i a) t ∙ is ∙ ap wanted (eqb-true j i t)
  | inr f ↦ if_false (j == i) x (at_number none i a) f ∙ rest (second_of (j == i) (is_in i ns) here f)
]

-- one place before others: its field, or its data
field_at : (place : Place) (b : Block) (filled : PlacedValues) (ns : List ℕ) (i : ℕ) →
    (is_in i ns ≡ true → at_number value.Absent i filled.fields ≡ nth_or value.Absent i (out-Block b).fields) → is_in i (field_number place ++ ns) ≡ true →
    at_number value.Absent i (with_slot place (value_at place b) filled).fields ≡ nth_or value.Absent i (out-Block b).fields
field_at (in_data j) b filled ns i more h = more h
field_at (in_fields j) b filled ns i more h =
    at_later value.Absent i j ns (nth_or value.Absent j (out-Block b).fields) filled.fields (λ k. nth_or value.Absent k (out-Block b).fields) refl more h

data_at : (place : Place) (b : Block) (filled : PlacedValues) (ns : List ℕ) (i : ℕ) →
    (is_in i ns ≡ true → at_number dataval.Absent i filled.parts ≡ nth_or dataval.Absent i (out-Block b).parts) → is_in i (data_number place ++ ns) ≡ true →
    at_number dataval.Absent i (with_slot place (value_at place b) filled).parts ≡ nth_or dataval.Absent i (out-Block b).parts
data_at (in_fields j) b filled ns i more h = more h
data_at (in_data j) b filled ns i more h =
    at_later dataval.Absent i j ns (data_of (text_in (data_value (nth_or dataval.Absent j (out-Block b).parts)))) filled.parts (λ k. nth_or dataval.Absent k (out-Block b).parts)
    (data_again (nth_or dataval.Absent j (out-Block b).parts)) more h

-- a field or data changes nothing of the groups
pub slot_groups : (place : Place) (v : Value) (filled : PlacedValues) → (with_slot place v filled).groups ≡ filled.groups
slot_groups (in_fields i) v filled = refl
slot_groups (in_data i) v filled = refl

fields_at : (p : Plan) (b : Block) (i : ℕ) → is_in i (field_places p) ≡ true → at_number value.Absent i (placed_values p (values_of p b)).fields ≡ nth_or value.Absent i (out-Block b).fields
fields_at done b i here = true_false here refl
fields_at (single s rest) b i here = field_at s.place b (placed_values rest (values_of rest b)) (field_places rest) i (fields_at rest b i) here
fields_at (group g inner rest) b i here = fields_at rest b i here

parts_at : (p : Plan) (b : Block) (i : ℕ) → is_in i (data_places p) ≡ true → at_number dataval.Absent i (placed_values p (values_of p b)).parts ≡ nth_or dataval.Absent i (out-Block b).parts
parts_at done b i here = true_false here refl
parts_at (single s rest) b i here = data_at s.place b (placed_values rest (values_of rest b)) (data_places rest) i (parts_at rest b i) here
parts_at (group g inner rest) b i here = parts_at rest b i here

-- the entries of entries
pub entries_again : (es : List Block) → entries_of (groupval.Entries es) ≡ es
entries_again es = items_hidden-the_row-Block-1 es

pub map_same : {X : Type 0} (f : X → X) (P : X → Type 0) → ((x : X) → P x → f x ≡ x) → (xs : List X) → Each P xs → map f xs ≡ xs
map_same f P same [] all = refl
map_same f P same (x ∷ xs) all = ap (λ y. y ∷ map f xs) (same x all.0) ∙ ap (λ ys. x ∷ ys) (map_same f P same xs all.1)

pub map_map : {X Y Z : Type 0} (f : X → Y) (g : Y → Z) (xs : List X) → map g (map f xs) ≡ map (λ x. g (f x)) xs
map_map f g [] = refl
map_map f g (x ∷ xs) = ap (λ ys. g (f x) ∷ ys) (map_map f g xs)

block_is : (level : Level) (p : Plan) (b : Block) → IsComplete level p → HasLengths level b →
    ((i : ℕ) → is_in i (group_places p) ≡ true → at_number groupval.Absent i (placed_values p (values_of p b)).groups ≡ nth_or groupval.Absent i (out-Block b).groups) →
    block_of level p (values_of p b) ≡ b
block_is level p b complete long groups =
    let filled = placed_values p (values_of p b) in
    let a = all_numbered value.Absent (length (out-Level level).fields) filled.fields (out-Block b).fields long.fields (λ k less. fields_at p b k (complete.fields k less)) in
    let c = all_numbered groupval.Absent (length (out-Level level).groups) filled.groups (out-Block b).groups long.groups (λ k less. groups k (complete.groups k less)) in
    let d = all_numbered dataval.Absent (length (out-Level level).parts) filled.parts (out-Block b).parts long.parts (λ k less. parts_at p b k (complete.parts k less)) in
    made_of a c d
  where
    made_of : {fields fs : List Value} {groups gs : List GroupVal} {parts ps : List DataVal} → fields ≡ fs → groups ≡ gs → parts ≡ ps →
        ◌≡◌ {A = Block} (record { fields = fields; groups = groups; parts = parts }) (record { fields = fs; groups = gs; parts = ps })
    made_of {fs = fs} {groups = groups} {gs = gs} {parts = parts} a c d =
        ap (λ (x : List Value). record { fields = x; groups = groups; parts = parts }) a ∙ ap (λ (x : List GroupVal). record { fields = fs; groups = x; parts = parts }) c
        ∙ ap (λ (x : List DataVal). record { fields = fs; groups = gs; parts = x }) d

groups_at : (p : Plan) (b : Block) → AreComplete p → HasEntries p b → (i : ℕ) → is_in i (group_places p) ≡ true →
    at_number groupval.Absent i (placed_values p (values_of p b)).groups ≡ nth_or groupval.Absent i (out-Block b).groups
groups_at done b complete has i here = true_false here refl
groups_at (single s rest) b complete has i here =
    ap (λ a. at_number groupval.Absent i a) (slot_groups s.place (value_at s.place b) (placed_values rest (values_of rest b))) ∙ groups_at rest b complete has i here
groups_at (group g inner rest) b complete has i here =
    let es = has.0.0 in
    let back = λ (e : Block). block_with g.level (placed_values inner (values_of inner e)) in
    let entries : entries_of (nth_or groupval.Absent g.place (out-Block b).groups) ≡ es = ap entries_of has.0.1 ∙ entries_again es in
    let each = map_same back (λ e. HasLengths g.level e × HasEntries inner e) (λ e fits. block_is g.level inner e complete.0 fits.0 (groups_at inner e complete.1 fits.1)) es has.0.2 in
    let is = map_map (λ e. values_of inner e) (λ t. block_with g.level (placed_values inner t)) (entries_of (nth_or groupval.Absent g.place (out-Block b).groups))
    ∙ ap (map back) entries ∙ each in
    at_later groupval.Absent i g.place (group_places rest) _ (placed_values rest (values_of rest b)).groups (λ k. nth_or groupval.Absent k (out-Block b).groups)
    (ap groupval.Entries is ∙ sym has.0.1) (groups_at rest b complete.2 has.1 i) here

-- a block is that of its own values
pub block_again : (level : Level) (p : Plan) (b : Block) → IsComplete level p → AreComplete p → HasLengths level b → HasEntries p b → block_of level p (values_of p b) ≡ b
block_again level p b complete deep long has = block_is level p b complete long (groups_at p b deep has)

-- blocks with the same values are the same
pub one_block : (level : Level) (p : Plan) (b c : Block) → IsComplete level p → AreComplete p → HasLengths level b → HasEntries p b → HasLengths level c → HasEntries p c →
    values_of p b ≡ values_of p c → b ≡ c
one_block level p b c complete deep lb hb lc hc same =
    sym (block_again level p b complete deep lb hb) ∙ ap (block_of level p) same ∙ block_again level p c complete deep lc hc
