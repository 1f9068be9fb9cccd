-- Fronts of slices of fields, and what is after them.
use Rattle.std.proofs.Common.{◌≡◌, ◌<◌, ◌≤◌, ◌+◌, ℕ, zero, suc, List, [], ◌∷◌, ◌++◌, take, drop, length, slice_get, Some, refl, ap, ◌∙◌, arith}
use Rattle.bridge_rules.proofs.OptionLemmas.{some_is, none_some}
use Rattle.field_judge.specs.declared.field.AppField.{AppField}
use Rattle.field_judge.specs.Fields.{field_of, fields_of}

pub drop_got : {X : Type 0} (xs : List X) (i : ℕ) (x : X) → slice_get xs i ≡ Some x → drop i xs ≡ x ∷ drop (i + 1) xs
drop_got [] i x h = none_some h
drop_got (y ∷ ys) zero x h = ap (λ z. z ∷ ys) (some_is h)
drop_got (y ∷ ys) (suc i) x h =
    let next : suc (i + 1) ≡ suc i + 1 = omega arith in
    drop_got ys i x h ∙ ap (λ n. x ∷ drop n (y ∷ ys)) next

pub take_got : {X : Type 0} (xs : List X) (i : ℕ) (x : X) → slice_get xs i ≡ Some x → take (i + 1) xs ≡ take i xs ++ x ∷ []
take_got [] i x h = none_some h
take_got (y ∷ ys) zero x h = ap (λ z. z ∷ []) (some_is h)
take_got (y ∷ ys) (suc i) x h =
    let next : suc i + 1 ≡ suc (i + 1) = omega arith in
    ap (λ n. take n (y ∷ ys)) next ∙ ap (λ zs. y ∷ zs) (take_got ys i x h)

pub got : {X : Type 0} (xs : List X) (i : ℕ) → i < length xs → (x : X) × (slice_get xs i ≡ Some x)
got [] i h = absurd (none h)
  where
    none : i < 0 → ⊥
    none k = omega (arith, k)
got (y ∷ ys) zero h = (y, refl)
got (y ∷ ys) (suc i) h = got ys i (omega (arith, h))

pub taken : {X : Type 0} (xs : List X) → take (length xs) xs ≡ xs
taken [] = refl
taken (x ∷ xs) = ap (λ ys. x ∷ ys) (taken xs)

pub dropped : {X : Type 0} (xs : List X) (n : ℕ) → length xs ≤ n → drop n xs ≡ []
dropped [] zero h = refl
dropped [] (suc n) h = refl
dropped (x ∷ xs) zero h = absurd (some h)
  where
    some : suc (length xs) ≤ 0 → ⊥
    some k = omega (arith, k)
dropped (x ∷ xs) (suc n) h = dropped xs n (omega (arith, h))

pub fields_on : (xs : List AppField) (i : ℕ) (x : AppField) → slice_get xs i ≡ Some x → fields_of (take (i + 1) xs) ≡ fields_of (take i xs) ++ field_of x ∷ []
fields_on xs i x h = ap fields_of (take_got xs i x h) ∙ mapped (take i xs)
  where
    mapped : (ys : List AppField) → fields_of (ys ++ x ∷ []) ≡ fields_of ys ++ field_of x ∷ []
    mapped [] = refl
    mapped (y ∷ ys) = ap (λ zs. field_of y ∷ zs) (mapped ys)

pub fields_first : (xs : List AppField) (x : AppField) → slice_get xs 0 ≡ Some x → fields_of xs ≡ field_of x ∷ fields_of (drop 1 xs)
fields_first xs x h = ap fields_of (drop_got xs 0 x h)

-- what is after the end is after any place beyond it
pub ends_alike : {X : Type 0} (xs : List X) (n : ℕ) → length xs ≤ n → (take n xs ≡ take (length xs) xs) × (drop n xs ≡ drop (length xs) xs)
ends_alike [] zero h = (refl, refl)
ends_alike [] (suc n) h = (refl, refl)
ends_alike (x ∷ xs) zero h = absurd (some h)
  where
    some : suc (length xs) ≤ 0 → ⊥
    some k = omega (arith, k)
ends_alike (x ∷ xs) (suc n) h =
    let more = ends_alike xs n (omega (arith, h)) in
    (ap (λ ys. x ∷ ys) more.0, more.1)
