-- The form of a decimal whose mantissa isn't a multiple of ten is the same fraction.
use Rattle.std.proofs.Common.{◌≡◌, ◌≢◌, inl, inr, ℕ, zero, suc, ◌*◌, ◌/◌, ◌%◌, ◌^◌, ◌<◌, false, refl, sym, ap, ◌∙◌, subst, arith, ℤ, pos, negsuc}
use Rattle.std.specs.Prelude.{◌==◌, ◌+ℤ◌, ◌-ℤ◌, ◌≤ℤ◌, unsigned_abs}
use Rattle.std.proofs.Math.Nat.{mul_assoc, mul_comm}
use Rattle.std.proofs.lemmas.Int.{ints}
use Rattle.std.proofs.lemmas.Bool.{eqb-true, eq-eqb}
use Rattle.sbe_types.specs.Numbers.{natural}
use Rattle.fix_values.specs.Numerals.{signed, is_below_zero}
use Rattle.fix_values.specs.Decimals.{dec, SameFraction, IsReduced, widened}
use Rattle.fix_values.proofs.NumeralLemmas.{sized as size_of}
use Rattle.fix_values.proofs.DecimalLemmas.{ten_next}
use Rattle.value_laws.proofs.Fractions.{sign_of, wide_same, turned}
use Rattle.bridge_rules.specs.Items.{with_zero, without_zeros, of_size, reduced_form}
use Rattle.bridge_rules.proofs.BoolLemmas.{true_false, either, if_true, if_false}

ten_more : (r z n : ℕ) → r * 10 ^ z ≡ n / 10 → n % 10 ≡ 0 → r * 10 ^ suc z ≡ n
ten_more r z n h even =
    let power : 10 ^ suc z ≡ 10 ^ z * 10 = ten_next z ∙ mul_comm 10 (10 ^ z) in
    let moved : r * 10 ^ suc z ≡ r * 10 ^ z * 10 = ap (λ p. r * p) power ∙ sym (mul_assoc r (10 ^ z) 10) in
    moved ∙ ap (λ p. p * 10) h ∙ omega (arith, even)

pub low_is : (k n : ℕ) → (without_zeros k n).0 * 10 ^ (without_zeros k n).1 ≡ n
low_is zero n = omega arith
low_is (suc k) n = elim (either (n % 10 == 0)) [
  | inl t ↦ ap (λ r. r.0 * 10 ^ r.1) (if_true (n % 10 == 0) (with_zero (without_zeros k (n / 10))) (n, 0) t)
      ∙ ten_more (without_zeros k (n / 10)).0 (without_zeros k (n / 10)).1 n (low_is k (n / 10)) (eqb-true (n % 10) 0 t)
  | inr f ↦ ap (λ r. r.0 * 10 ^ r.1) (if_false (n % 10 == 0) (with_zero (without_zeros k (n / 10))) (n, 0) f) ∙ omega arith
]

pub low_ends : (k n : ℕ) → 0 < n → n < 10 ^ k → (without_zeros k n).0 % 10 ≢ 0
low_ends zero n some few = absurd (omega (arith, some, few))
low_ends (suc k) n some few = elim (either (n % 10 == 0)) [
  | inl t ↦
      let even : n % 10 ≡ 0 = eqb-true (n % 10) 0 t in
      let power : 10 ^ suc k ≡ 10 ^ k * 10 = ten_next k ∙ mul_comm 10 (10 ^ k) in
      subst (λ r. r.0 % 10 ≢ 0) (sym (if_true (n % 10 == 0) (with_zero (without_zeros k (n / 10))) (n, 0) t))
      (low_ends k (n / 10) (omega (arith, some, even)) (omega (arith, some, few, even, power)))
  | inr f ↦ subst (λ r. r.0 % 10 ≢ 0) (sym (if_false (n % 10 == 0) (with_zero (without_zeros k (n / 10))) (n, 0) f))
      (λ even. true_false (eq-eqb (n % 10) 0 even) f)
]

low_some : (r z n : ℕ) → r * 10 ^ z ≡ n → 0 < n → 0 < r
low_some zero z n h some = absurd (omega (arith, h, some))
low_some (suc r) z n h some = omega arith

resigned : (n : ℤ) → n ≡ signed (is_below_zero n) (unsigned_abs n)
resigned (pos n) = refl
resigned (negsuc n) = refl

nothing_is : (m : ℤ) → unsigned_abs m ≡ 0 → m ≡ pos 0
nothing_is (pos n) h = ap pos h
nothing_is (negsuc n) h = absurd (omega (arith, h))

wider : (e : ℤ) (z : ℕ) → (e +ℤ pos z) -ℤ e ≡ pos z
wider e z = omega (arith, ints)

lower_same : (m e : ℤ) (r : ℕ × ℕ) → r.0 * 10 ^ r.1 ≡ unsigned_abs m → 0 < unsigned_abs m → SameFraction (of_size (is_below_zero m) r e) (dec m e)
lower_same m e r low some =
    let b = is_below_zero m in
    let n = signed b r.0 in
    let up = e +ℤ pos r.1 in
    let below : is_below_zero n ≡ b = sign_of b r.0 (λ neg. low_some r.0 r.1 (unsigned_abs m) low some) in
    let same : widened n (natural (up -ℤ e)) ≡ m =
    ap (λ z. widened n (natural z)) (wider e r.1)
    ∙ ap (λ c. signed c (unsigned_abs n * 10 ^ r.1)) below
    ∙ ap (λ k. signed b (k * 10 ^ r.1)) (size_of b r.0)
    ∙ ap (signed b) low ∙ sym (resigned m) in
    turned (subst (λ w. SameFraction (dec w e) (dec n up)) same (wide_same n up e (subst (λ z. pos 0 ≤ℤ z) (sym (wider e r.1)) (omega (arith, ints)))))

pub form_same : (m e : ℤ) → SameFraction (reduced_form (dec m e)) (dec m e)
form_same m e = elim (either (unsigned_abs m == 0)) [
  | inl t ↦
      let none : m ≡ pos 0 = nothing_is m (eqb-true (unsigned_abs m) 0 t) in
      subst (λ d. SameFraction d (dec m e)) (sym (if_true (unsigned_abs m == 0) (dec (pos 0) (pos 0)) (of_size (is_below_zero m) (without_zeros 39 (unsigned_abs m)) e) t))
      (subst (λ n. SameFraction (dec (pos 0) (pos 0)) (dec n e)) (sym none) (record { sign = refl; size = omega arith }))
  | inr f ↦
      subst (λ d. SameFraction d (dec m e)) (sym (if_false (unsigned_abs m == 0) (dec (pos 0) (pos 0)) (of_size (is_below_zero m) (without_zeros 39 (unsigned_abs m)) e) f))
      (lower_same m e (without_zeros 39 (unsigned_abs m)) (low_is 39 (unsigned_abs m)) (positive (unsigned_abs m) f))
]
  where
    positive : (n : ℕ) → (n == 0) ≡ false → 0 < n
    positive zero f = true_false refl f
    positive (suc n) f = omega arith

pub form_reduced : (m e : ℤ) → unsigned_abs m < 10 ^ 39 → IsReduced (reduced_form (dec m e))
form_reduced m e few = elim (either (unsigned_abs m == 0)) [
  | inl t ↦ subst IsReduced (sym (if_true (unsigned_abs m == 0) (dec (pos 0) (pos 0)) (of_size (is_below_zero m) (without_zeros 39 (unsigned_abs m)) e) t)) (inr (refl, refl))
  | inr f ↦ subst IsReduced (sym (if_false (unsigned_abs m == 0) (dec (pos 0) (pos 0)) (of_size (is_below_zero m) (without_zeros 39 (unsigned_abs m)) e) f))
      (inl (λ h. low_ends 39 (unsigned_abs m) (positive (unsigned_abs m) f) few (ap (λ n. n % 10) (sym (size_of (is_below_zero m) (without_zeros 39 (unsigned_abs m)).0)) ∙ h)))
]
  where
    positive : (n : ℕ) → (n == 0) ≡ false → 0 < n
    positive zero f = true_false refl f
    positive (suc n) f = omega arith
