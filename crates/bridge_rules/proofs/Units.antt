-- A count of one unit, as a count of a smaller one, and back.
use Rattle.std.proofs.Common.{◌≡◌, ℕ, zero, suc, ◌*◌, ◌/◌, ◌%◌, ◌^◌, ◌<◌, Bool, true, false, cond, Result, Ok, Err, refl, sym, ap, ◌∙◌, arith, ℤ, pos, negsuc}
use Rattle.std.specs.Prelude.{◌==◌, unsigned_abs}
use Rattle.std.proofs.Math.Nat.{mul-div_cancel, mul-mod_left, div-add-mod'}
use Rattle.std.proofs.lemmas.Bool.{eqb-true, eq-eqb}
use Rattle.fix_values.specs.declared.rule.V.{V}
use Rattle.fix_values.specs.declared.rule.V.TheVariants as why
use Rattle.fix_values.specs.Numerals.{signed, is_below_zero}
use Rattle.fix_values.specs.Decimals.{widened, narrowed}
use Rattle.fix_values.proofs.NumeralLemmas.{sized as size_of}
use Rattle.fix_values.proofs.DecimalLemmas.{ten_pos}
use Rattle.value_laws.proofs.Fractions.{sign_of, below_some}
use Rattle.bridge_rules.proofs.OptionLemmas.{ok_is}
use Rattle.bridge_rules.proofs.BoolLemmas.{if_true}
use Rattle.bridge_rules.proofs.PlainRules.{err_ok}

resigned : (n : ℤ) → n ≡ signed (is_below_zero n) (unsigned_abs n)
resigned (pos n) = refl
resigned (negsuc n) = refl

whole_parts : (a p : ℕ) → a % p ≡ 0 → a / p * p ≡ a
whole_parts a p none = let all = div-add-mod' a p in omega (arith, all, none)

some_part : (q a p : ℕ) → q * p ≡ a → 0 < a → 0 < q
some_part zero a p h some = absurd (omega (arith, h, some))
some_part (suc q) a p h some = omega arith

-- a count that was made smaller is the other one
pub narrowed_is : (n : ℤ) (k : ℕ) (m : ℤ) → narrowed n k ≡ Ok m → widened m k ≡ n
narrowed_is n k m h = by_test (unsigned_abs n % 10 ^ k == 0) refl h
  where
    b : Bool
    b = is_below_zero n

    q : ℕ
    q = unsigned_abs n / 10 ^ k

    by_test : (t : Bool) → (unsigned_abs n % 10 ^ k == 0) ≡ t → ◌≡◌ {A = Result ℤ V} (cond t (Ok (signed b q)) (Err why.Inexact)) (Ok m) → widened m k ≡ n
    by_test false is e = err_ok e
    by_test true is e =
        let whole : q * 10 ^ k ≡ unsigned_abs n = whole_parts (unsigned_abs n) (10 ^ k) (eqb-true (unsigned_abs n % 10 ^ k) 0 is) in
        let below : is_below_zero (signed b q) ≡ b = sign_of b q (λ neg. some_part q (unsigned_abs n) (10 ^ k) whole (below_some n neg)) in
        ap (λ z. widened z k) (sym (ok_is e))
        ∙ ap (λ c. signed c (unsigned_abs (signed b q) * 10 ^ k)) below
        ∙ ap (λ s. signed b (s * 10 ^ k)) (size_of b q)
        ∙ ap (signed b) whole ∙ sym (resigned n)

-- and back
pub narrowed_so : (m : ℤ) (k : ℕ) → narrowed (widened m k) k ≡ Ok m
narrowed_so m k =
    let b = is_below_zero m in
    let a = unsigned_abs m in
    let n = a * 10 ^ k in
    let below : is_below_zero (signed b n) ≡ b = sign_of b n (λ neg. wide (below_some m neg)) in
    let size : unsigned_abs (signed b n) ≡ n = size_of b n in
    let none : n % 10 ^ k ≡ 0 = mul-mod_left a (10 ^ k) in
    let back : n / 10 ^ k ≡ a = mul-div_cancel a (ten_pos k) in
    ap (λ s. cond {A = Result ℤ V} (s % 10 ^ k == 0) (Ok (signed (is_below_zero (signed b n)) (s / 10 ^ k))) (Err why.Inexact)) size
    ∙ if_true (n % 10 ^ k == 0) _ _ (eq-eqb (n % 10 ^ k) 0 none)
    ∙ ap (λ c. Ok (signed c (n / 10 ^ k))) below ∙ ap (λ s. Ok (signed b s)) back ∙ ap Ok (sym (resigned m))
  where
    wide : 0 < unsigned_abs m → 0 < unsigned_abs m * 10 ^ k
    wide some = more (unsigned_abs m) (10 ^ k) some (ten_pos k)
      where
        more : (a p : ℕ) → 0 < a → 0 < p → 0 < a * p
        more zero p h g = absurd (omega (arith, h))
        more (suc a) p h g = omega (arith, g)
