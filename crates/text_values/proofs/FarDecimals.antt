-- Decimals under exponents that are far from all that texts have, and moments in their units.
use Rattle.std.proofs.Common.{◌≡◌, ℕ, zero, suc, ◌+◌, ◌-◌, ◌*◌, ◌/◌, ◌%◌, ◌^◌, ◌<◌, ◌≤◌, Bool, true, false, cond, ◌==◌, Result, Ok, Err, refl, sym, ap, ◌∙◌, arith, pos, negsuc, ℤ, int_le, unsigned_abs, FitsSigned, to_z, ◌-ℤ◌, ◌≤ℤ◌, subst, inl, inr, nat_lt, nat_le, List, [], ◌∷◌, length}
use Rattle.std.specs.Int.{w32, w128}
use Rattle.std.proofs.lemmas.Int.{ints}
use Rattle.std.proofs.lemmas.Bool.Decides.{nat_tests}
use Rattle.std.proofs.Math.Nat.{one-le-pow}
use Rattle.bridge_rules.proofs.BoolLemmas.{either}
use Rattle.sbe_types.specs.declared.kind.Leaf.{Leaf as LeafOf}
use Rattle.fix_values.specs.declared.rule.V.{V}
use Rattle.fix_values.specs.declared.rule.V.TheVariants.{Spelling, Range, Inexact}
use Rattle.fix_values.specs.declared.rule.Dec.{Dec}
use Rattle.fix_values.specs.Numerals.{signed, is_below_zero}
use Rattle.fix_values.specs.Decimals.{are_digits, decimal_of, dec, digits_counted, parts_of, reduced, without_leading, without_trailing, fitted, leaf_number, mantissa_under, narrowed, widened}
use Rattle.fix_values.proofs.DecimalLemmas.{far_narrowed, far_widened, under_wide, under_narrow}
use Rattle.fix_values.proofs.LeafLemmas.{outside}
use Rattle.date_answers.specs.Answers.{in_unit}

-- zero under any power of ten
zero_narrowed : (k : ℕ) → narrowed (pos 0) k ≡ Ok (pos 0)
zero_narrowed k = by_power (10 ^ k) (one-le-pow k 10 (omega arith))
  where
    by_power : (p : ℕ) → 1 ≤ p → cond (0 % p == 0) (Ok (pos (0 / p))) (Err Inexact) ≡ Ok (pos 0)
    by_power p some = let rest : 0 % p ≡ 0 = omega (arith, some) in let whole : 0 / p ≡ 0 = omega (arith, some) in rw (rest, whole) refl

zero_widened : (k : ℕ) → widened (pos 0) k ≡ pos 0
zero_widened k = let none : 0 * 10 ^ k ≡ 0 = omega arith in ap pos none

pub zero_fitted : (d : Dec) (leaf : LeafOf) (e : ℤ) → d.mantissa ≡ pos 0 → fitted d leaf e ≡ leaf_number leaf (Ok (pos 0))
zero_fitted d leaf e is = ap (leaf_number leaf) (by_test (int_le e d.exponent) refl)
  where
    by_test : (b : Bool) → int_le e d.exponent ≡ b → mantissa_under d e ≡ Ok (pos 0)
    by_test true low = under_wide d e (unsigned_abs (d.exponent -ℤ e)) low refl ∙ ap (λ n. Ok (widened n (unsigned_abs (d.exponent -ℤ e)))) is ∙ ap Ok (zero_widened (unsigned_abs (d.exponent -ℤ e)))
    by_test false high = under_narrow d e (unsigned_abs (e -ℤ d.exponent)) high refl ∙ ap (λ n. narrowed n (unsigned_abs (e -ℤ d.exponent))) is ∙ zero_narrowed (unsigned_abs (e -ℤ d.exponent))

pub far_above : (d : Dec) (leaf : LeafOf) (e : ℤ) → FitsSigned w128 d.mantissa → ¬ (d.mantissa ≡ pos 0) → int_le e d.exponent ≡ false → 38 < unsigned_abs (e -ℤ d.exponent) → fitted d leaf e ≡ Err Inexact
far_above d leaf e fits some high many = ap (leaf_number leaf) (under_narrow d e (unsigned_abs (e -ℤ d.exponent)) high refl ∙ sym (far_narrowed d.mantissa (unsigned_abs (e -ℤ d.exponent)) fits some many))

pub far_below : (d : Dec) (leaf : LeafOf) (e : ℤ) → FitsSigned w128 leaf.low → FitsSigned w128 leaf.high → ¬ (d.mantissa ≡ pos 0) → int_le e d.exponent ≡ true → 38 < unsigned_abs (d.exponent -ℤ e) → fitted d leaf e ≡ Err Range
far_below d leaf e low high some under many =
    let wide = widened d.mantissa (unsigned_abs (d.exponent -ℤ e)) in
    ap (leaf_number leaf) (under_wide d e (unsigned_abs (d.exponent -ℤ e)) under refl)
    ∙ ap (λ b. cond b (Ok wide) (Err Range)) (outside leaf wide low high (far_widened d.mantissa (unsigned_abs (d.exponent -ℤ e)) some many))

-- ---- exponents that no i32 holds

fits_pos : (n : ℕ) → n < 2 ^ 31 → FitsSigned w32 (pos n)
fits_pos n h = record { sfits = omega (arith, h) }

fits_neg : (n : ℕ) → n < 2 ^ 31 → FitsSigned w32 (negsuc n)
fits_neg n h = record { sfits = omega (arith, h) }

large : (n : ℕ) (e : ℤ) → (n < 2 ^ 31 → FitsSigned w32 e) → ¬ FitsSigned w32 e → 2 ^ 31 ≤ n
large n e fits unfit = elim (either (nat_lt n (2 ^ 31))) [
  | inl t ↦ absurd (unfit (fits (below t)))
  | inr f ↦ above f
]
  where
    below : nat_lt n (2 ^ 31) ≡ true → n < 2 ^ 31
    below t = grind (arith, nat_tests)

    above : nat_lt n (2 ^ 31) ≡ false → 2 ^ 31 ≤ n
    above f = grind (arith, nat_tests)

over : (z : ℤ) → pos 39 ≤ℤ z → 38 < unsigned_abs z
over (pos k) h = omega (arith, ints, h)
over (negsuc k) h = absurd (none h)
  where
    none : pos 39 ≤ℤ negsuc k → ⊥
    none e = omega (arith, ints, e)

above_far : (n : ℕ) (own : ℤ) → unsigned_abs own ≤ 38 → 2 ^ 31 ≤ n → (int_le (pos n) own ≡ false) × (38 < unsigned_abs (pos n -ℤ own))
above_far n (pos m) near far = (grind (arith, ints), over (pos n -ℤ pos m) (grind (arith, ints)))
above_far n (negsuc m) near far = (refl, over (pos n -ℤ negsuc m) (grind (arith, ints)))

below_far : (n : ℕ) (own : ℤ) → unsigned_abs own ≤ 38 → 2 ^ 31 ≤ n → (int_le (negsuc n) own ≡ true) × (38 < unsigned_abs (own -ℤ negsuc n))
below_far n (pos m) near far = (refl, over (pos m -ℤ negsuc n) (grind (arith, ints)))
below_far n (negsuc m) near far = (grind (arith, ints), over (negsuc m -ℤ negsuc n) (grind (arith, ints)))

pub fitted_above : (d : Dec) (leaf : LeafOf) (e : ℤ) → FitsSigned w128 d.mantissa → ¬ (d.mantissa ≡ pos 0) → unsigned_abs d.exponent ≤ 38 → ¬ FitsSigned w32 e → pos 0 ≤ℤ e → fitted d leaf e ≡ Err Inexact
fitted_above d leaf (pos n) fits some near unfit high =
    let far = above_far n d.exponent near (large n (pos n) (fits_pos n) unfit) in
    far_above d leaf (pos n) fits some far.0 far.1
fitted_above d leaf (negsuc n) fits some near unfit high = absurd (none high)
  where
    none : pos 0 ≤ℤ negsuc n → ⊥
    none h = omega (arith, ints, h)

pub fitted_below : (d : Dec) (leaf : LeafOf) (e : ℤ) → FitsSigned w128 leaf.low → FitsSigned w128 leaf.high → ¬ (d.mantissa ≡ pos 0) → unsigned_abs d.exponent ≤ 38 → ¬ FitsSigned w32 e → e ≤ℤ pos 0 → fitted d leaf e ≡ Err Range
fitted_below d leaf (negsuc n) fl fh some near unfit low =
    let far = below_far n d.exponent near (large n (negsuc n) (fits_neg n) unfit) in
    far_below d leaf (negsuc n) fl fh some far.0 far.1
fitted_below d leaf (pos n) fl fh some near unfit low =
    let much = large n (pos n) (fits_pos n) unfit in
    absurd (none low much)
  where
    none : pos n ≤ℤ pos 0 → 2 ^ 31 ≤ n → ⊥
    none h much = omega (arith, ints, h, much)

-- ---- decimals as texts have them

near_parts : (b : Bool) (whole fraction : List ℕ) → length whole + length fraction ≤ 38 → unsigned_abs (reduced b whole fraction).exponent ≤ 38
near_parts b whole [] few = omega (arith, few)
near_parts b whole (f ∷ fs) few = omega (arith, few)

pub near_read : (t : List ℕ) (d : Dec) → decimal_of t ≡ Ok d → unsigned_abs d.exponent ≤ 38
near_read t d h =
    let parts = parts_of t in
    by_digits (are_digits parts.whole parts.fraction) (nat_le (digits_counted parts) 38) refl h
  where
    ok_err : {x : Dec} {v : V} → ◌≡◌ {A = Result Dec V} (Err v) (Ok x) → ⊥
    ok_err k = cc

    ok_is : {x y : Dec} → ◌≡◌ {A = Result Dec V} (Ok x) (Ok y) → x ≡ y
    ok_is k = cc

    within : {n : ℕ} → nat_le n 38 ≡ true → n ≤ 38
    within {n} k = grind (arith, nat_tests)

    read : Dec
    read = let parts = parts_of t in reduced parts.negative (without_leading parts.whole) (without_trailing parts.fraction)

    by_digits : (a b : Bool) → nat_le (digits_counted (parts_of t)) 38 ≡ b → cond a (cond b (Ok read) (Err Range)) (Err Spelling) ≡ Ok d → unsigned_abs d.exponent ≤ 38
    by_digits false b e k = absurd (ok_err k)
    by_digits true false e k = absurd (ok_err k)
    by_digits true true e k =
        let parts = parts_of t in
        subst (λ (x : Dec). unsigned_abs x.exponent ≤ 38) (ok_is k) (near_parts parts.negative (without_leading parts.whole) (without_trailing parts.fraction) (within e))

-- ---- nanoseconds in a unit

signed_abs : (n : ℤ) → signed (is_below_zero n) (unsigned_abs n) ≡ n
signed_abs (pos n) = refl
signed_abs (negsuc n) = refl

times_one : (n : ℕ) → n * 10 ^ 0 ≡ n
times_one n = omega arith

over_one : (n : ℕ) → cond (n % 10 ^ 0 == 0) (n / 10 ^ 0) 0 ≡ n
over_one n = let rest : n % 1 ≡ 0 = omega arith in let whole : n / 1 ≡ n = omega arith in rw (rest, whole) refl

pub whole_under : (n : ℤ) (k : ℕ) → mantissa_under (dec n (pos 0)) (pos k) ≡ narrowed n k
whole_under n zero =
    ap (λ m. Ok (signed (is_below_zero n) m)) (times_one (unsigned_abs n)) ∙ ap Ok (signed_abs n) ∙ sym (one_narrowed n)
  where
    one_narrowed : (n : ℤ) → narrowed n 0 ≡ Ok n
    one_narrowed n =
        let rest : unsigned_abs n % 1 ≡ 0 = omega arith in
        let whole : unsigned_abs n / 1 ≡ unsigned_abs n = omega arith in
        rw (rest, whole) (ap Ok (signed_abs n))
whole_under n (suc k) = under_narrow (dec n (pos 0)) (pos (suc k)) (suc k) (grind (arith, ints)) (omega (arith, ints))

pub counted_in : (leaf : LeafOf) (n e : ℤ) (k unit : ℕ) → e ≡ pos k → k ≡ 9 - unit → fitted (dec n (pos 0)) leaf e ≡ leaf_number leaf (in_unit n unit)
counted_in leaf n e k unit is places = ap (fitted (dec n (pos 0)) leaf) is ∙ ap (leaf_number leaf) (whole_under n k) ∙ ap (λ k. leaf_number leaf (narrowed n k)) places

pub small_is : (n : ℕ) → n ≤ 9 → to_z w32 n ≡ pos n
small_is n h = grind (arith, ints)
