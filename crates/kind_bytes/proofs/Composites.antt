-- The first misfit of a composite's value, by the lists of members and values.
use Rattle.std.proofs.Common.{◌≡◌, ◌<◌, ◌≤◌, ◌+◌, ℕ, zero, suc, true, false, cond, List, [], ◌∷◌, length, drop, Option, Some, None, refl, sym, ap, ap₂, ◌∙◌, subst, arith}
use Rattle.std.specs.Prelude.{slice_get}
use Rattle.std.specs.List.{AllByRecursion}
use Rattle.std.proofs.lemmas.List.{drop_all}
use Rattle.sbe_types.specs.declared.kind.Kind.{Comp, Row_of-Member, end_of-Member, more_of-Member, items-the_row-Member, items_hidden-the_row-Member-0}
use Rattle.sbe_types.specs.declared.kind.Member.{Member}
use Rattle.sbe_types.specs.declared.message.Value.{Value, items_hidden-the_row-Value-0}
use Rattle.sbe_types.specs.declared.message.Value.TheVariants as value
use Rattle.sbe_types.specs.declared.path.Step.{Step}
use Rattle.sbe_types.specs.declared.path.Step.TheVariants as way
use Rattle.sbe_types.specs.declared.limits.TheConstants.{MEMBER_LIMIT}
use Rattle.sbe_types.specs.Wire.{member_values}
use Rattle.sbe_wire.specs.Misfit.{Misfit, or_else, misfit_in, other_kind, same_length, row_misfit, value_misfit}
use Rattle.schema_facts.specs.InOrder.{height, IsKindInOrder}
use Rattle.schema_facts.proofs.KindLists.{list_height, height_comp, made_members}
use Rattle.schema_facts.proofs.KindMembers.{members_kinds}
use Rattle.sbe_types.proofs.KindRows.{row_in}
use Rattle.kind_bytes.specs.declared.error.ValueMisfit.{ValueMisfit}
use Rattle.kind_bytes.specs.Misfits.{members_misfit, unfit_of}

some_is : {A : Type 0} {x y : A} → ◌≡◌ {A = Option A} (Some x) (Some y) → x ≡ y
some_is h = cc

-- ---- rows

same_true : (n : _) (row : Row_of-Member n) (vs : List Value) → length (items-the_row-Member n row) ≡ length vs → same_length row vs ≡ true
same_true n end_of-Member [] h = refl
same_true n end_of-Member (v ∷ vs) h = absurd (omega (arith, h))
same_true n (more_of-Member name offset kind rest) [] h = absurd (omega (arith, h))
same_true n (more_of-Member name offset kind rest) (v ∷ vs) h = same_true _ rest vs (omega (arith, h))

same_false : (n : _) (row : Row_of-Member n) (vs : List Value) → (length (items-the_row-Member n row) ≡ length vs → ⊥) → same_length row vs ≡ false
same_false n end_of-Member [] h = absurd (h refl)
same_false n end_of-Member (v ∷ vs) h = refl
same_false n (more_of-Member name offset kind rest) [] h = refl
same_false n (more_of-Member name offset kind rest) (v ∷ vs) h = same_false _ rest vs (λ same. h (ap suc same))

row_same : (i : ℕ) (n : _) (row : Row_of-Member n) (vs : List Value) → length (items-the_row-Member n row) ≡ length vs → row_misfit i row (Some vs) ≡ members_misfit i (items-the_row-Member n row) vs
row_same i n end_of-Member [] h = refl
row_same i n end_of-Member (v ∷ vs) h = absurd (omega (arith, h))
row_same i n (more_of-Member name offset kind rest) [] h = absurd (omega (arith, h))
row_same i n (more_of-Member name offset kind rest) (v ∷ vs) h =
    ap (λ t. cond t (or_else (misfit_in (way.Part i) (value_misfit kind v)) (row_misfit (suc i) rest (Some vs))) other_kind) (same_true _ rest vs (omega (arith, h)))
    ∙ ap (or_else (misfit_in (way.Part i) (value_misfit kind v))) (row_same (suc i) _ rest vs (omega (arith, h)))

row_other : (i : ℕ) (n : _) (row : Row_of-Member n) (vs : List Value) → (length (items-the_row-Member n row) ≡ length vs → ⊥) → row_misfit i row (Some vs) ≡ other_kind
row_other i n end_of-Member [] h = absurd (h refl)
row_other i n end_of-Member (v ∷ vs) h = refl
row_other i n (more_of-Member name offset kind rest) [] h = refl
row_other i n (more_of-Member name offset kind rest) (v ∷ vs) h =
    ap (λ t. cond t (or_else (misfit_in (way.Part i) (value_misfit kind v)) (row_misfit (suc i) rest (Some vs))) other_kind) (same_false _ rest vs (λ same. h (ap suc same)))

row_none : (i : ℕ) (n : _) (row : Row_of-Member n) → row_misfit i row None ≡ other_kind
row_none i n end_of-Member = refl
row_none i n (more_of-Member name offset kind rest) = refl

-- ---- composites

pub values_are : (vs : List Value) → member_values (value.Comp vs) ≡ Some vs
values_are vs = ap Some (items_hidden-the_row-Value-0 vs)

pub comp_none : (ms : List Member) (v : Value) → member_values v ≡ None → value_misfit (Comp ms) v ≡ other_kind
comp_none ms v h =
    let row = row_in (Comp ms) in
    ap (λ o. row_misfit 0 row.1 o) h ∙ row_none 0 row.0 row.1

pub comp_some : (ms : List Member) (v : Value) (vs : List Value) → member_values v ≡ Some vs → value_misfit (Comp ms) v ≡ value_misfit (Comp ms) (value.Comp vs)
comp_some ms v vs h =
    let row = row_in (Comp ms) in
    ap (λ o. row_misfit 0 row.1 o) (h ∙ sym (values_are vs))

pub comp_same : (ms : List Member) (vs : List Value) → length ms ≡ length vs → value_misfit (Comp ms) (value.Comp vs) ≡ members_misfit 0 ms vs
comp_same ms vs h =
    let row = row_in (Comp ms) in
    let is = items_hidden-the_row-Member-0 ms in
    ap (λ o. row_misfit 0 row.1 o) (values_are vs) ∙ row_same 0 row.0 row.1 vs (ap length is ∙ h) ∙ ap (λ l. members_misfit 0 l vs) is

pub comp_other : (ms : List Member) (vs : List Value) → (length ms ≡ length vs → ⊥) → value_misfit (Comp ms) (value.Comp vs) ≡ other_kind
comp_other ms vs h =
    let row = row_in (Comp ms) in
    let is = items_hidden-the_row-Member-0 ms in
    ap (λ o. row_misfit 0 row.1 o) (values_are vs) ∙ row_other 0 row.0 row.1 vs (λ same. h (sym (ap length is) ∙ same))

-- ---- what is known of members

ready_at : (high e : ℕ) (ms : List Member) (i : ℕ) (m : Member) → AllByRecursion (λ (m : Member). IsKindInOrder m.kind) ms → list_height ms < high → slice_get ms i ≡ Some m → IsKindInOrder m.kind × (height m.kind < high)
ready_at high e [] i m h low is = absurd cc
ready_at high e (x ∷ ms) zero m h low is = subst (λ (y : Member). IsKindInOrder y.kind × (height y.kind < high)) (some_is is) (h.0, omega (arith, low))
ready_at high e (x ∷ ms) (suc i) m h low is = ready_at high e ms i m h.1 (omega (arith, low)) is

pub member_ready : (ms : List Member) (i : ℕ) (m : Member) → IsKindInOrder (Comp ms) → slice_get ms i ≡ Some m → IsKindInOrder m.kind × (height m.kind < height (Comp ms))
member_ready ms i m h is = ready_at (height (Comp ms)) 0 ms i m (members_kinds ms h) (omega (arith, height_comp ms)) is

pub members_few : (ms : List Member) → IsKindInOrder (Comp ms) → length ms ≤ MEMBER_LIMIT
members_few ms h = (made_members 1 ms h.parts).few

-- ---- steps

pub drop_at : {A : Type 0} (xs : List A) (i : ℕ) (x : A) → slice_get xs i ≡ Some x → drop i xs ≡ x ∷ drop (suc i) xs
drop_at [] i x h = absurd cc
drop_at (y ∷ ys) zero x h = ap (λ z. z ∷ ys) (some_is h)
drop_at (y ∷ ys) (suc i) x h = drop_at ys i x h

under_is : (u next : ValueMisfit) (s : Step) → next ≡ record { cause = u.cause; path = s ∷ u.path; detail = u.detail } → ◌≡◌ {A = Option Misfit} (Some (unfit_of next)) (misfit_in s (Some (unfit_of u)))
under_is u next s h = ap (λ (x : ValueMisfit). Some (unfit_of x)) h

module _ (i : ℕ) (ms : List Member) (vs : List Value) (m : Member) (v : Value) (at : slice_get ms i ≡ Some m) (there : slice_get vs i ≡ Some v) where
  pub member_next : members_misfit i (drop i ms) (drop i vs) ≡ or_else (misfit_in (way.Part i) (value_misfit m.kind v)) (members_misfit (suc i) (drop (suc i) ms) (drop (suc i) vs))
  member_next = ap₂ (members_misfit i) (drop_at ms i m at) (drop_at vs i v there)

  pub member_refused : (u next : ValueMisfit) → Some (unfit_of u) ≡ value_misfit m.kind v → next ≡ record { cause = u.cause; path = way.Part i ∷ u.path; detail = u.detail }
      → Some (unfit_of next) ≡ members_misfit i (drop i ms) (drop i vs)
  member_refused u next h is =
      under_is u next (way.Part i) is ∙ ap (λ o. or_else (misfit_in (way.Part i) o) (members_misfit (suc i) (drop (suc i) ms) (drop (suc i) vs))) h ∙ sym member_next

  pub member_passed : None ≡ value_misfit m.kind v → members_misfit (i + 1) (drop (i + 1) ms) (drop (i + 1) vs) ≡ members_misfit i (drop i ms) (drop i vs)
  member_passed h =
      let on : suc i ≡ i + 1 = omega arith in
      ap (λ j. members_misfit j (drop j ms) (drop j vs)) (sym on)
      ∙ ap (λ o. or_else (misfit_in (way.Part i) o) (members_misfit (suc i) (drop (suc i) ms) (drop (suc i) vs))) h ∙ sym member_next

-- after the last member
pub none_behind : (i : ℕ) (ms : List Member) (vs : List Value) → length ms ≤ i → None ≡ members_misfit i (drop i ms) (drop i vs)
none_behind i ms vs h = sym (ap (λ l. members_misfit i l (drop i vs)) (drop_all i ms h))
