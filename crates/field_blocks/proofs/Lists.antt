-- Lists of values that grow.
use Rattle.std.proofs.Common.{◌≡◌, ◌⊎◌, inl, inr, ◌<◌, ◌+◌, ℕ, zero, suc, List, [], ◌∷◌, ◌++◌, length, slice_get, Option, Some, refl, sym, ap, ◌∙◌, arith}
use Rattle.bridge_rules.proofs.OptionLemmas.{some_is, none_some}
use Rattle.bridge_terms.specs.Blocks.{nth_or}

-- what is at a number of a list with one more item: what was there, or that item
pub pushed_at : {X : Type 0} (xs : List X) (x : X) (i : ℕ) → i < length xs + 1
    → ((i < length xs) × (slice_get (xs ++ x ∷ []) i ≡ slice_get xs i)) ⊎ ((i ≡ length xs) × (slice_get (xs ++ x ∷ []) i ≡ Some x))
pushed_at [] x zero less = inr (refl, refl)
pushed_at [] x (suc i) less = absurd (none less)
  where
    none : suc i < 0 + 1 → ⊥
    none h = omega (arith, h)
pushed_at (y ∷ ys) x zero less = inl (omega arith, refl)
pushed_at (y ∷ ys) x (suc i) less = elim (pushed_at ys x i (omega (arith, less))) [
  | inl a ↦ inl (omega (arith, a.0), a.1)
  | inr b ↦ inr (ap suc b.0, b.1)
]

-- a number at which there is an item is within the list
pub got_within : {X : Type 0} (xs : List X) (i : ℕ) (x : X) → slice_get xs i ≡ Some x → i < length xs
got_within [] i x h = none_some h
got_within (y ∷ ys) zero x h = omega arith
got_within (y ∷ ys) (suc i) x h =
    let more = got_within ys i x h in
    omega (arith, more)

pub nth_is : {X : Type 0} (none : X) (xs : List X) (i : ℕ) (x : X) → slice_get xs i ≡ Some x → nth_or none i xs ≡ x
nth_is none [] i x h = none_some h
nth_is none (y ∷ ys) zero x h = some_is h
nth_is none (y ∷ ys) (suc i) x h = nth_is none ys i x h

pub same_item : {X : Type 0} (o : Option X) (a b : X) → o ≡ Some a → o ≡ Some b → a ≡ b
same_item o a b h k = some_is (sym h ∙ k)

pub one_longer : {X : Type 0} (xs : List X) (x : X) → length (xs ++ x ∷ []) ≡ length xs + 1
one_longer [] x = refl
one_longer (y ∷ ys) x = ap suc (one_longer ys x) ∙ next (length ys)
  where
    next : (n : ℕ) → suc (n + 1) ≡ suc n + 1
    next n = omega arith

-- what is at a number of a list with one more item, where that is at the next number
pub pushed : {X : Type 0} (xs : List X) (x : X) (i j : ℕ) → length xs ≡ i → j < length (xs ++ x ∷ [])
    → ((j < length xs) × (slice_get (xs ++ x ∷ []) j ≡ slice_get xs j)) ⊎ ((j ≡ i) × (slice_get (xs ++ x ∷ []) j ≡ Some x))
pushed xs x i j many less = elim (pushed_at xs x j (omega (arith, less, one_longer xs x))) [
  | inl a ↦ inl a
  | inr b ↦ inr (b.0 ∙ many, b.1)
]
