-- A bit among four of a number.
use Rattle.std.proofs.Common.{◌≡◌, ℕ, zero, suc, ◌+◌, ◌-◌, ◌*◌, ◌/◌, ◌%◌, ◌^◌, ◌<◌, ◌≤◌, ◌==◌, List, [], ◌∷◌, cond, refl, sym, ap, ◌∙◌, arith, subst}
use Rattle.std.specs.List.{AllByRecursion}
use Rattle.std.proofs.Math.Nat.{div-div-eq-div-mul, mod-eq_of_lt, mul-div_cancel, mul-le-mul_right, pow-le-pow_right}
use Rattle.std.proofs.lemmas.Nat.{pow-add, pow_pos}
use Rattle.sbe_types.specs.Numbers.{natural}
use Rattle.fix_values.specs.declared.rule.Code.{Code}
use Rattle.fix_values.specs.Codes.{codes_in, has_bit}
use Rattle.set_texts.specs.Runs.{HasPlaceFrom}

-- one of the low four bits
low_bit : (m j : ℕ) → j < 4 → m % 16 / 2 ^ j % 2 ≡ m / 2 ^ j % 2
low_bit m zero h = omega arith
low_bit m (suc zero) h = omega arith
low_bit m (suc (suc zero)) h = omega arith
low_bit m (suc (suc (suc zero))) h = omega arith
low_bit m (suc (suc (suc (suc j)))) h = absurd (omega (arith, h))

-- a bit of the upper part of a number
high_bit : (n f j : ℕ) → n / 2 ^ (f + j) ≡ n / 2 ^ f / 2 ^ j
high_bit n f j = ap (λ k. n / k) (pow-add 2 f j) ∙ sym (div-div-eq-div-mul n (2 ^ f) (2 ^ j))

moved_bit : (m f j : ℕ) → m * 2 ^ f / 2 ^ (f + j) ≡ m / 2 ^ j
moved_bit m f j = high_bit (m * 2 ^ f) f j ∙ ap (λ k. k / 2 ^ j) (mul-div_cancel m (pow_pos f))

same_bit : (n f p : ℕ) → f ≤ p → p < f + 4 → (n / 2 ^ f % 16) * 2 ^ f / 2 ^ p % 2 ≡ n / 2 ^ p % 2
same_bit n f p low high =
    let j = p - f in
    let there : f + j ≡ p = omega (arith, low) in
    let m = n / 2 ^ f in
    subst (λ q. (m % 16) * 2 ^ f / 2 ^ q % 2 ≡ n / 2 ^ q % 2) there
    (ap (λ k. k % 2) (moved_bit (m % 16) f j) ∙ (low_bit m j (omega (arith, low, high)) ∙ ap (λ k. k % 2) (sym (high_bit n f j))))

-- a code has its bit in a number exactly if it has it in the four bits
same_code : (n f : ℕ) (code : Code) → HasPlaceFrom f code → has_bit ((n / 2 ^ f % 16) * 2 ^ f) code ≡ has_bit n code
same_code n f code has =
    let place : natural code.number ≡ has.0 = ap natural has.1 in
    subst (λ p. ((n / 2 ^ f % 16) * 2 ^ f / 2 ^ p % 2 == 1) ≡ (n / 2 ^ p % 2 == 1)) (sym place) (ap (λ k. k == 1) (same_bit n f has.0 has.2 has.3))

pub same_codes : (n f : ℕ) (codes : List Code) → AllByRecursion (HasPlaceFrom f) codes → codes_in codes ((n / 2 ^ f % 16) * 2 ^ f) ≡ codes_in codes n
same_codes n f [] all = refl
same_codes n f (x ∷ xs) all = ap (λ b. cond b (x ∷ codes_in xs ((n / 2 ^ f % 16) * 2 ^ f)) (codes_in xs ((n / 2 ^ f % 16) * 2 ^ f))) (same_code n f x all.0)
    ∙ ap (λ l. cond (has_bit n x) (x ∷ l) l) (same_codes n f xs all.1)

-- four bits fit sixty-four, moved up so
pub shifted : (n f : ℕ) → n < 16 → f + 4 ≤ 64 → n * 2 ^ f % 2 ^ 64 ≡ n * 2 ^ f
shifted n f few within =
    let p = 2 ^ f in
    let some : 0 < p = pow_pos f in
    let most : p * 16 ≤ 2 ^ 64 = subst (λ k. k ≤ 2 ^ 64) (pow-add 2 f 4) (pow-le-pow_right (omega arith) within) in
    let less : suc n * p ≤ 16 * p = mul-le-mul_right p few in
    mod-eq_of_lt (omega (arith, some, most, less))
