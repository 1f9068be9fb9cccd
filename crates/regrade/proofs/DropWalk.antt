-- The walk that counts what is dropped.
use Rattle.std.proofs.Common.{◌≡◌, ◌≤◌, ◌<◌, ◌+◌, ℕ, Bool, true, false, List, [], ◌∷◌, length, drop, Some, refl, sym, ap, ap₂, ◌∙◌, arith}
use Rattle.std.specs.Prelude.{slice_get, not, ◌&&◌}
use Rattle.std.proofs.lemmas.Bool.Decides.{nat_tests}
use Rattle.sbe_types.specs.declared.kind.Kind.{Kind, Leaf, Enum, Set, Const, Comp'}
use Rattle.sbe_types.specs.declared.schema.Field.{Field}
use Rattle.sbe_types.specs.declared.schema.DataField.{DataField}
use Rattle.sbe_types.specs.declared.message.Block.{Block}
use Rattle.sbe_types.specs.declared.message.Value.{Value}
use Rattle.sbe_types.specs.declared.message.DataVal.{DataVal}
use Rattle.sbe_types.specs.declared.message.DataVal.TheVariants as dataval
use Rattle.sbe_types.specs.Places.{is_const}
use Rattle.schema_facts.specs.Counted.{total}
use Rattle.version_laws.specs.Differ.{is_old}
use Rattle.version_laws.specs.Plain.{is_absent_part}
use Rattle.regrade_laws.specs.Counts.{one_if, sum_pairs, is_absent, drops_field, drops_part}
use Rattle.version_project.proofs.Items.{drop_at}
use Rattle.regrade.proofs.Items.{none_left}

module _ {P V : Type 0} (n : P → V → ℕ) where
  -- one more part, counted
  pub sum_step : (left rest : List P) (p : P) (vs : List V) (i : ℕ) (v : V) → left ≡ p ∷ rest → slice_get vs i ≡ Some v → sum_pairs n left (drop i vs) ≡ n p v + sum_pairs n rest (drop (i + 1) vs)
  sum_step left rest p vs i v at is = ap₂ (sum_pairs n) at (drop_at vs i v is)

  none_of : (ps : List P) → sum_pairs n ps [] ≡ 0
  none_of [] = refl
  none_of (p ∷ ps) = refl

  -- no value is left
  pub sum_over : (left : List P) (vs : List V) (i : ℕ) → length vs ≤ i → sum_pairs n left (drop i vs) ≡ 0
  sum_over left vs i few = ap (sum_pairs n left) (none_left vs i few) ∙ none_of left

  -- no part is left
  pub sum_ended : (left : List P) (vs : List V) → left ≡ [] → sum_pairs n left vs ≡ 0
  sum_ended left vs none = ap (λ l. sum_pairs n l vs) none

pub total_step : (n : Block → ℕ) (left rest : List Block) (e : Block) → left ≡ e ∷ rest → total n left ≡ n e + total n rest
total_step n left rest e at = ap (total n) at

old_has : (version since : ℕ) → since ≤ version → is_old version since ≡ true
old_has version since h = grind (arith, nat_tests)

old_lacks : (version since : ℕ) → version < since → is_old version since ≡ false
old_lacks version since h = grind (arith, nat_tests)

-- ---- one field

module _ (version : ℕ) (f : Field) (v : Value) where
  pub old_stays : f.since ≤ version → false ≡ drops_field version f v
  old_stays h = sym (ap (λ t. not t && (not (is_absent v) && not (is_const f.kind))) (old_has version f.since h))

  const_stays : (t : Bool) → (not t && not true) ≡ false
  const_stays true = refl
  const_stays false = refl

  plain : (t : Bool) → (not t && not false) ≡ not t
  plain true = refl
  plain false = refl

  pub constant_stays : version < f.since → is_const f.kind ≡ true → false ≡ drops_field version f v
  constant_stays h c = sym (ap (λ t. not t && (not (is_absent v) && not (is_const f.kind))) (old_lacks version f.since h) ∙ ap (λ t. not (is_absent v) && not t) c ∙ const_stays (is_absent v))

  pub later_drops : version < f.since → is_const f.kind ≡ false → (t : Bool) → t ≡ not (is_absent v) → t ≡ drops_field version f v
  later_drops h c t is = is ∙ sym (ap (λ t. not t && (not (is_absent v) && not (is_const f.kind))) (old_lacks version f.since h) ∙ ap (λ t. not (is_absent v) && not t) c ∙ plain (is_absent v))

-- ---- one data part

module _ (version : ℕ) (p : DataField) (v : DataVal) where
  pub old_part_stays : p.since ≤ version → false ≡ drops_part version p v
  old_part_stays h = sym (ap (λ t. not t && not (is_absent_part v)) (old_has version p.since h))

  pub absent_part_stays : version < p.since → v ≡ dataval.Absent → false ≡ drops_part version p v
  absent_part_stays h is = sym (ap (λ t. not t && not (is_absent_part v)) (old_lacks version p.since h) ∙ ap (λ x. not (is_absent_part x)) is)

  pub later_part_drops : (bytes : List ℕ) → version < p.since → v ≡ dataval.Bytes bytes → true ≡ drops_part version p v
  later_part_drops bytes h is = sym (ap (λ t. not t && not (is_absent_part v)) (old_lacks version p.since h) ∙ ap (λ x. not (is_absent_part x)) is)
