-- Equality that is decided.
use Rattle.std.proofs.Common.{◌≡◌, ◌⊎◌, inl, inr, ℕ, Bool, true, false, ℤ, pos, negsuc, List, [], ◌∷◌, Option, Some, None, refl, sym, ap, ◌∙◌, arith}
use Rattle.std.specs.Prelude.{◌==◌}
use Rattle.std.proofs.lemmas.Bool.Decides.{nat_tests}

-- it holds, or it doesn't
abbrev pub Decided : Type 0 → Type 0
Decided P = P ⊎ (P → ⊥)

-- the values of a type are told apart
abbrev pub Apart : Type 0 → Type 0
Apart A = (x y : A) → Decided (x ≡ y)

untrue : ◌≡◌ {A = Bool} false true → ⊥
untrue h = cc

pub numbers : Apart ℕ
numbers a b = by (a == b) refl
  where
    by : (t : Bool) → (a == b) ≡ t → Decided (a ≡ b)
    by true e = let same : a ≡ b = grind (arith, nat_tests) in inl same
    by false e = inr differs
      where
        differs : a ≡ b → ⊥
        differs same = untrue (sym e ∙ hit)
          where
            hit : (a == b) ≡ true
            hit = grind (arith, nat_tests)

-- a type whose values are kept in another
pub through : {A B : Type 0} (f : A → B) (g : B → A) → ((x : A) → g (f x) ≡ x) → Apart B → Apart A
through f g back apart x y = elim (apart (f x) (f y)) [ inl e ↦ inl (sym (back x) ∙ ap g e ∙ back y) | inr n ↦ inr (λ e. n (ap f e)) ]

pub pairs : {A B : Type 0} → Apart A → Apart B → Apart (A × B)
pairs {A} {B} first second x y = elim (first x.0 y.0) [
  | inl e ↦ elim (second x.1 y.1) [ inl f ↦ inl (ap (λ (a : A). (a, x.1)) e ∙ ap (λ (b : B). (y.0, b)) f) | inr n ↦ inr (λ h. n (ap (λ (p : A × B). p.1) h)) ]
  | inr n ↦ inr (λ h. n (ap (λ (p : A × B). p.0) h))
]

pub lists : {A : Type 0} → Apart A → Apart (List A)
lists apart [] [] = inl refl
lists apart [] (y ∷ ys) = inr (λ h. cc)
lists apart (x ∷ xs) [] = inr (λ h. cc)
lists {A} apart (x ∷ xs) (y ∷ ys) = elim (apart x y) [
  | inl e ↦ elim (lists apart xs ys) [ inl f ↦ inl (ap (λ (a : A). a ∷ xs) e ∙ ap (λ (l : List A). y ∷ l) f) | inr n ↦ inr (λ h. n (rest_is h)) ]
  | inr n ↦ inr (λ h. n (first_is h))
]
  where
    first_is : ◌≡◌ {A = List A} (x ∷ xs) (y ∷ ys) → x ≡ y
    first_is h = cc

    rest_is : ◌≡◌ {A = List A} (x ∷ xs) (y ∷ ys) → xs ≡ ys
    rest_is h = cc

pub options : {A : Type 0} → Apart A → Apart (Option A)
options apart None None = inl refl
options apart None (Some y) = inr (λ h. cc)
options apart (Some x) None = inr (λ h. cc)
options {A} apart (Some x) (Some y) = elim (apart x y) [ inl e ↦ inl (ap Some e) | inr n ↦ inr (λ h. n (some_is h)) ]
  where
    some_is : ◌≡◌ {A = Option A} (Some x) (Some y) → x ≡ y
    some_is h = cc

pub integers : Apart ℤ
integers (pos m) (pos n) = elim (numbers m n) [ inl e ↦ inl (ap pos e) | inr miss ↦ inr (λ h. miss (pos_is h)) ]
  where
    pos_is : ◌≡◌ {A = ℤ} (pos m) (pos n) → m ≡ n
    pos_is h = cc
integers (pos m) (negsuc n) = inr (λ h. cc)
integers (negsuc m) (pos n) = inr (λ h. cc)
integers (negsuc m) (negsuc n) = elim (numbers m n) [ inl e ↦ inl (ap negsuc e) | inr miss ↦ inr (λ h. miss (neg_is h)) ]
  where
    neg_is : ◌≡◌ {A = ℤ} (negsuc m) (negsuc n) → m ≡ n
    neg_is h = cc

-- where both are decided
pub both : {P Q R : Type 0} → Decided P → Decided Q → (P → Q → R) → (R → P) → (R → Q) → Decided R
both p q make one two = elim p [
  | inl x ↦ elim q [ inl y ↦ inl (make x y) | inr n ↦ inr (λ r. n (two r)) ]
  | inr n ↦ inr (λ r. n (one r))
]

pub and : {P Q : Type 0} → Decided P → Decided Q → Decided (P × Q)
and p q = elim p [
  | inl x ↦ elim q [ inl y ↦ inl (x, y) | inr n ↦ inr (λ r. n r.1) ]
  | inr n ↦ inr (λ r. n r.0)
]
