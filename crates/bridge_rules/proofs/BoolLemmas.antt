-- Tags among others, and the part that has one.
use Rattle.std.proofs.Common.{◌≡◌, ◌⊎◌, inl, inr, ℕ, Bool, true, false, cond, refl, sym, ap, ◌∙◌}
use Rattle.std.specs.Prelude.{◌&&◌, ◌||◌, ◌==◌, not}
use Rattle.std.proofs.lemmas.Bool.{eq-eqb}

pub true_false : {Z : Type 0} {t : Bool} → t ≡ true → t ≡ false → Z
true_false p q = absurd (never (sym p ∙ q))
  where
    never : true ≡ false → ⊥
    never k = cc

pub either : (t : Bool) → (t ≡ true) ⊎ (t ≡ false)
either true = inl refl
either false = inr refl

pub or_left : (a b : Bool) → a ≡ true → a || b ≡ true
or_left a b h = ap (λ a. a || b) h

pub or_right : (a b : Bool) → b ≡ true → a || b ≡ true
or_right true b h = refl
or_right false b h = h

pub or_false : (a b : Bool) → a || b ≡ false → (a ≡ false) × (b ≡ false)
or_false true b h = true_false refl h
or_false false b h = (refl, h)

pub none_of : (a b : Bool) → a ≡ false → b ≡ false → a || b ≡ false
none_of a b p q = ap (λ a. a || b) p ∙ q

pub second_of : (a b : Bool) → a || b ≡ true → a ≡ false → b ≡ true
second_of a b h p = sym (ap (λ a. a || b) p) ∙ h

pub and_so : (a b : Bool) → a ≡ true → b ≡ true → a && b ≡ true
and_so a b p q = ap (λ a. a && b) p ∙ q

pub not_true : (t : Bool) → not t ≡ true → t ≡ false
not_true true h = sym h
not_true false h = refl

pub same_self : (n : ℕ) → (n == n) ≡ true
same_self n = eq-eqb n n refl

pub if_true : {X : Type 0} (t : Bool) (a b : X) → t ≡ true → cond t a b ≡ a
if_true t a b h = ap (λ t. cond t a b) h

pub if_false : {X : Type 0} (t : Bool) (a b : X) → t ≡ false → cond t a b ≡ b
if_false t a b h = ap (λ t. cond t a b) h
