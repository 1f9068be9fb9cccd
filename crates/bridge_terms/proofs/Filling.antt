-- The block that is made of values has these values.
use Rattle.std.proofs.Common.{◌≡◌, inl, inr, ℕ, zero, suc, ◌<◌, ◌+◌, true, false, List, [], ◌∷◌, ◌++◌, length, map, refl, sym, ap, ◌∙◌, subst, arith}
use Rattle.std.specs.Prelude.{◌||◌, ◌==◌}
use Rattle.std.proofs.lemmas.Bool.{eqb-true}
use Rattle.sbe_types.specs.declared.schema.Level.{Level, out-Level}
use Rattle.sbe_types.specs.declared.message.Value.{Value}
use Rattle.sbe_types.specs.declared.message.Value as value
use Rattle.sbe_types.specs.declared.message.DataVal.TheVariants as dataval
use Rattle.sbe_types.specs.declared.message.Block.{Block, out-Block}
use Rattle.sbe_types.specs.declared.message.GroupVal.{GroupVal}
use Rattle.sbe_types.specs.declared.message.GroupVal as groupval
use Rattle.bridge_rules.specs.Members.{text_in}
use Rattle.bridge_terms.specs.Plans.{Plan, Slot, Place, Tree, Each, is_in, done, single, group, in_fields, in_data}
use Rattle.bridge_terms.specs.Blocks.{nth_or, data_value, entries_of, value_at, values_of, data_of, with_slot, at_number, in_numbers, block_with, placed_values, block_of, field_number, data_number, field_places, data_places, group_places, AreApart, IsSeparate, AreSeparate, IsHeld, AreHeld}
use Rattle.bridge_rules.proofs.BoolLemmas.{true_false, either, or_left, or_right, same_self, if_true, if_false}
use Rattle.bridge_terms.proofs.Arranging.{entries_again, map_same, map_map, slot_groups}

nth_numbered : {X : Type 0} (none : X) (n i k : ℕ) (a : List (ℕ × X)) → k < n → nth_or none k (in_numbers none n i a) ≡ at_number none (i + k) a
nth_numbered none zero i k a less = absurd (omega (arith, less))
nth_numbered none (suc n) i zero a less = ap (λ j. at_number none j a) (same i)
  where
    same : (i : ℕ) → i ≡ i + 0
    same i = omega arith
nth_numbered none (suc n) i (suc k) a less = nth_numbered none n (suc i) k a (omega (arith, less)) ∙ ap (λ j. at_number none j a) (moved i k)
  where
    moved : (i k : ℕ) → suc i + k ≡ i + suc k
    moved i k = omega arith

each_in : (P : ℕ → Type 0) (ns : List ℕ) → Each P ns → (i : ℕ) → is_in i ns ≡ true → P i
each_in P [] all i here = true_false here refl
each_in P (n ∷ ns) all i here = elim (either (n == i)) [
  | inl t ↦ subst P (eqb-true n i t) all.0
  | inr f ↦ each_in P ns all.1 i (sym (ap (λ t. t || is_in i ns) f) ∙ here)
]

held_number : {X : Type 0} (none : X) (n : ℕ) (ns : List ℕ) (a : List (ℕ × X)) → Each (λ i. i < n) ns → (i : ℕ) → is_in i ns ≡ true → nth_or none i (in_numbers none n 0 a) ≡ at_number none i a
held_number none n ns a all i here = nth_numbered none n 0 i a (each_in (λ i. i < n) ns all i here) ∙ ap (λ j. at_number none j a) (from_none i)
  where
    from_none : (k : ℕ) → 0 + k ≡ k
    from_none k = omega arith

-- a number that stands after another is another one
pub at_behind : {X : Type 0} (none : X) (j : ℕ) (x : X) (ns : List ℕ) (a : List (ℕ × X)) → is_in j ns ≡ false → (i : ℕ) → is_in i ns ≡ true → at_number none i ((j, x) ∷ a) ≡ at_number none i a
at_behind none j x ns a new i here = if_false (j == i) x (at_number none i a) (elim (either (j == i)) [
  | inl t ↦ true_false (ap (λ k. is_in k ns) (eqb-true j i t) ∙ here) new
  | inr f ↦ f
])

pub at_first : {X : Type 0} (none : X) (j : ℕ) (x : X) (a : List (ℕ × X)) → at_number none j ((j, x) ∷ a) ≡ x
at_first none j x a = if_true (j == j) x (at_number none j a) (same_self j)

-- the block has, at the places of a plan, what was filled in
pub record Has (p : Plan) (t : Tree Value p) (b : Block) : Type 0 where
  pub fields : (i : ℕ) → is_in i (field_places p) ≡ true → nth_or value.Absent i (out-Block b).fields ≡ at_number value.Absent i (placed_values p t).fields
  pub groups : (i : ℕ) → is_in i (group_places p) ≡ true → nth_or groupval.Absent i (out-Block b).groups ≡ at_number groupval.Absent i (placed_values p t).groups
  pub parts : (i : ℕ) → is_in i (data_places p) ≡ true → nth_or dataval.Absent i (out-Block b).parts ≡ at_number dataval.Absent i (placed_values p t).parts

abbrev pub Apart : Plan → Type 0
Apart p = AreApart (field_places p) × AreApart (group_places p) × AreApart (data_places p)

-- what one place gives, and what is known of the rest
pub slot_has : (s : Slot) (rest : Plan) (t : Tree Value (single s rest)) (b : Block) → (place : Place) → s.place ≡ place → Apart (single s rest) → IsHeld place t.0 → Has (single s rest) t b →
    (value_at place b ≡ t.0) × Apart rest × Has rest t.1 b
slot_has s rest t b (in_fields j) is apart held has =
    let filled = placed_values rest t.1 in
    let fits = subst (λ place. AreApart (field_number place ++ field_places rest) × AreApart (data_number place ++ data_places rest)) is (apart.0, apart.2) in
    let f = subst (λ place. (i : ℕ) → is_in i (field_number place ++ field_places rest) ≡ true → nth_or value.Absent i (out-Block b).fields ≡ at_number value.Absent i (with_slot place t.0 filled).fields) is has.fields in
    let d = subst (λ place. (i : ℕ) → is_in i (data_number place ++ data_places rest) ≡ true → nth_or dataval.Absent i (out-Block b).parts ≡ at_number dataval.Absent i (with_slot place t.0 filled).parts) is has.parts in (
      f j (or_left (j == j) _ (same_self j)) ∙ at_first value.Absent j t.0 filled.fields,
      (fits.0.1, apart.1, fits.1),
      record {
        fields = λ i here. f i (or_right (j == i) _ here) ∙ at_behind value.Absent j t.0 (field_places rest) filled.fields fits.0.0 i here;
        groups = λ i here. has.groups i here ∙ ap (λ a. at_number groupval.Absent i a) (slot_groups s.place t.0 filled);
        parts = d;
      },
    )
slot_has s rest t b (in_data j) is apart held has =
    let filled = placed_values rest t.1 in
    let fits = subst (λ place. AreApart (field_number place ++ field_places rest) × AreApart (data_number place ++ data_places rest)) is (apart.0, apart.2) in
    let f = subst (λ place. (i : ℕ) → is_in i (field_number place ++ field_places rest) ≡ true → nth_or value.Absent i (out-Block b).fields ≡ at_number value.Absent i (with_slot place t.0 filled).fields) is has.fields in
    let d = subst (λ place. (i : ℕ) → is_in i (data_number place ++ data_places rest) ≡ true → nth_or dataval.Absent i (out-Block b).parts ≡ at_number dataval.Absent i (with_slot place t.0 filled).parts) is has.parts in (
      ap data_value (d j (or_left (j == j) _ (same_self j)) ∙ at_first dataval.Absent j (data_of (text_in t.0)) filled.parts) ∙ ap (λ v. data_value (data_of (text_in v))) held.1 ∙ sym held.1,
      (fits.0, apart.1, fits.1.1),
      record {
        fields = f;
        groups = λ i here. has.groups i here ∙ ap (λ a. at_number groupval.Absent i a) (slot_groups s.place t.0 filled);
        parts = λ i here. d i (or_right (j == i) _ here) ∙ at_behind dataval.Absent j (data_of (text_in t.0)) (data_places rest) filled.parts fits.1.0 i here;
      },
    )

pub block_has : (level : Level) (p : Plan) (t : Tree Value p) → IsSeparate level p → Has p t (block_of level p t)
block_has level p t separate = record {
  fields = λ i here. held_number value.Absent (length (out-Level level).fields) (field_places p) (placed_values p t).fields separate.fields.1 i here;
  groups = λ i here. held_number groupval.Absent (length (out-Level level).groups) (group_places p) (placed_values p t).groups separate.groups.1 i here;
  parts = λ i here. held_number dataval.Absent (length (out-Level level).parts) (data_places p) (placed_values p t).parts separate.parts.1 i here;
}

pair_is : {X Y : Type 0} (x : X) (y : Y) (z : X × Y) → x ≡ z.0 → y ≡ z.1 → (x, y) ≡ z
pair_is x y z a b = ap (λ x. (x, y)) a ∙ ap (λ y. (z.0, y)) b

arranged_is : (p : Plan) (t : Tree Value p) (b : Block) → Apart p → AreSeparate p → AreHeld p t → Has p t b → values_of p b ≡ t
arranged_is done t b apart deep held has = refl
arranged_is (single s rest) t b apart deep held has =
    let is = slot_has s rest t b s.place refl apart held.0 has in
    pair_is _ _ t is.0 (arranged_is rest t.1 b is.1 deep held.1 is.2)
arranged_is (group g inner rest) t b apart deep held has =
    let filled = placed_values rest t.1 in
    let made = λ (e : Tree Value inner). block_with g.level (placed_values inner e) in
    let entry = groupval.Entries (map made t.0) in
    let here : nth_or groupval.Absent g.place (out-Block b).groups ≡ entry = has.groups g.place (or_left (g.place == g.place) _ (same_self g.place)) ∙ at_first groupval.Absent g.place entry filled.groups in
    let inside = map_same (λ e. values_of inner (made e)) (λ e. AreHeld inner e)
    (λ e h. arranged_is inner e (made e) (deep.0.fields.0, deep.0.groups.0, deep.0.parts.0) deep.1 h (block_has g.level inner e deep.0)) t.0 held.0 in
    let entries = ap (λ v. map (λ e. values_of inner e) (entries_of v)) here ∙ ap (map (λ e. values_of inner e)) (entries_again (map made t.0)) ∙ map_map made (λ e. values_of inner e) t.0 ∙ inside in
    pair_is _ _ t entries (arranged_is rest t.1 b (apart.0, apart.1.1, apart.2) deep.2 held.1 (record {
      fields = has.fields;
      groups = λ i k. has.groups i (or_right (g.place == i) _ k) ∙ at_behind groupval.Absent g.place entry (group_places rest) filled.groups apart.1.0 i k;
      parts = has.parts;
    }))

-- the block of values has them
pub values_again : (level : Level) (p : Plan) (t : Tree Value p) → IsSeparate level p → AreSeparate p → AreHeld p t → values_of p (block_of level p t) ≡ t
values_again level p t separate deep held = arranged_is p t (block_of level p t) (separate.fields.0, separate.groups.0, separate.parts.0) deep held (block_has level p t separate)
