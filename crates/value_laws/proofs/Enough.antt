-- Thirty-eight digits are enough for numbers of 64 bits, and few enough for 128.
use Rattle.std.proofs.Common.{◌≡◌, ℕ, zero, suc, ◌+◌, ◌*◌, ◌/◌, ◌^◌, ◌<◌, ◌≤◌, Bool, true, false, List, [], ◌∷◌, ◌++◌, length, length-append, refl, sym, ap, ◌∙◌, arith, subst, pos, negsuc, ℤ, neg_ℤ, int_le, nat_le, unsigned_abs, Ok, decimal}
use Rattle.std.proofs.Math.Nat.{pow-le-pow_right, mul-le-mul, div-le_self}
use Rattle.std.proofs.lemmas.Fmt.{length-decimal-le_wide}
use Rattle.std.specs.Str.{all_ascii_digits}
use Rattle.std.specs.Str.Parse.{digits_value}
use Rattle.sbe_types.specs.Numbers.{natural}
use Rattle.fix_values.specs.declared.rule.Dec.{Dec}
use Rattle.fix_values.specs.Numerals.{is_below_zero, signed}
use Rattle.fix_values.specs.Decimals.{dec, places, parts_shown, shown_parts, parts_text, whole_of, rest_of, digits_at, digits_counted, without_leading, without_trailing, decimal_text, decimal_of}
use Rattle.fix_values.proofs.NumeralLemmas.{leb-true}
use Rattle.fix_values.proofs.DecimalLemmas.{length_leading, length_trailing, no_places, undivided, text_at, within}
use Rattle.value_laws.proofs.DecimalsBack.{digits_at_length}

-- the digits that count, of a whole part below a power of ten and of so many places
counted : (negative : Bool) (whole k rest most : ℕ) → 0 < most → whole < 10 ^ most → whole < 10 ^ 64 → most + k ≤ 38 → digits_counted (parts_shown negative whole k rest) ≤ 38
counted negative whole k rest most some small wide few =
    let front = length-decimal-le_wide most whole some small wide in
    let fraction = digits_at k rest in
    omega (arith, few, front, length_leading (decimal whole), length_trailing (without_trailing fraction), length_trailing fraction, digits_at_length k rest)

counted_at : (m e : ℤ) → unsigned_abs m < 2 ^ 64 → int_le (neg_ℤ (pos 18)) e ≡ true → int_le e (pos 18) ≡ true → digits_counted (shown_parts (dec m e)) ≤ 38
counted_at m (pos k) small low high =
    let few = leb-true k 18 high in
    let n = unsigned_abs m * 10 ^ k in
    let power : 10 ^ k ≤ 10 ^ 18 = pow-le-pow_right {n = 10} (omega arith) few in
    let bound : unsigned_abs m ≤ 2 ^ 64 = omega (arith, small) in
    let product : n ≤ 2 ^ 64 * 10 ^ 18 = mul-le-mul bound power in
    let whole : whole_of (dec m (pos k)) ≡ n = undivided n (natural (neg_ℤ (pos k))) (no_places k) in
    counted (is_below_zero m) (whole_of (dec m (pos k))) (natural (neg_ℤ (pos k))) (rest_of (dec m (pos k))) 38 (omega arith) (omega (arith, whole, product)) (omega (arith, whole, product)) (omega (arith, no_places k))
counted_at m (negsuc k) small low high =
    let d = dec m (negsuc k) in
    let few = leb-true k 17 low in
    let quotient = div-le_self (unsigned_abs m * 10 ^ 0) (10 ^ suc k) in
    counted (is_below_zero m) (whole_of d) (suc k) (rest_of d) 20 (omega arith) (omega (arith, quotient, small)) (omega (arith, quotient, small)) (omega (arith, few))

-- a mantissa of 64 bits has a text under each exponent that is shown
pub has_text : (m e : ℤ) → unsigned_abs m < 2 ^ 64 → int_le (neg_ℤ (pos 18)) e ≡ true → int_le e (pos 18) ≡ true → (text : List ℕ) × (decimal_text (dec m e) ≡ Ok text)
has_text m e small low high =
    (parts_text (shown_parts (dec m e)), text_at m e low high ∙ rw (within (digits_counted (shown_parts (dec m e))) (counted_at m e small low high)))
