-- Whole numbers and those without a sign.
use Rattle.std.proofs.Common.{◌≡◌, ◌<◌, ◌≤◌, ℕ, zero, suc, ◌+◌, ◌%◌, ◌^◌, ◌==◌, ◌&&◌, min, max, Bool, true, false, cond, ℤ, pos, negsuc, ◌+ℤ◌, ◌-ℤ◌, int_le, unsigned_abs, FitsSigned, List, length, refl, sym, ap, subst, arith, mod-lt}
use Rattle.std.specs.Prelude.{◌≤ℤ◌}
use Rattle.std.specs.Int.{w128, cast_signed}
use Rattle.std.proofs.lemmas.Bool.{eqb-false}
use Rattle.std.proofs.lemmas.Int.{ints}
use Rattle.std.proofs.lemmas.List.{length-set}
use Rattle.rand_pcg.specs.Lcg.{Lcg}
use Rattle.rand_pcg.specs.Pcg.{pcg32}
use Rattle.sbe_types.specs.declared.kind.Leaf.{Leaf as LeafOf}
use Rattle.sbe_types.specs.Numbers.{natural}
use Rattle.sbe_types.specs.Shown.{admits}
use Rattle.vectors.specs.declared.numbers.TheConstants.{WORD_LIMIT, RAISED_LIMIT}
use Rattle.vectors.specs.Altered.{altered}
use Rattle.vectors.specs.Drawing.{Drawing, remainder, below, times}
use Rattle.vectors.specs.Messages.{amount}
use Rattle.vectors.specs.Values.{size_of, number_in}

pub natural_low : (n : ℤ) → n ≤ℤ pos 0 → natural n ≡ 0
natural_low (pos n) h = omega (arith, ints, h)
natural_low (negsuc n) h = refl

pub natural_is : (n : ℤ) → pos 0 ≤ℤ n → pos (natural n) ≡ n
natural_is (pos n) h = refl
natural_is (negsuc n) h = absurd (omega (arith, ints, h))

abs_is : (n : ℤ) → pos 0 ≤ℤ n → pos (unsigned_abs n) ≡ n
abs_is (pos n) h = refl
abs_is (negsuc n) h = absurd (omega (arith, ints, h))

pub size_some : (low high : ℤ) → int_le low high ≡ true → size_of low high ≡ unsigned_abs (high -ℤ low) + 1
size_some low high h = ap (λ t. cond t (unsigned_abs (high -ℤ low) + 1) 0) h

pub size_none : (low high : ℤ) → int_le low high ≡ false → size_of low high ≡ 0
size_none low high h = ap (λ t. cond t (unsigned_abs (high -ℤ low) + 1) 0) h

pub widened : (n : ℕ) → n < 2 ^ 127 → cast_signed w128 n ≡ pos n
widened n h = omega (arith, ints)

-- a number that is drawn of a range fits
pub number_fits : (low high : ℤ) (n k : ℕ) → FitsSigned w128 low → FitsSigned w128 high → n ≡ min (size_of low high) WORD_LIMIT → k < max n 1 → FitsSigned w128 (low +ℤ pos k)
number_fits low high n k fl fh is small = by (int_le low high) refl where
  by : (t : Bool) → int_le low high ≡ t → FitsSigned w128 (low +ℤ pos k)
  by true e =
      let room : pos 0 ≤ℤ (high -ℤ low) = grind (arith, ints) in
      let size = size_some low high e in
      let same = abs_is (high -ℤ low) room in
      omega (arith, ints, size, same, is, small, fl, fh)
  by false e = let none = size_none low high e in omega (arith, ints, none, is, small, fl, fh)

pub both : (a b : Bool) → a ≡ true → b ≡ true → a && b ≡ true
both true b x y = y
both false b x y = x

remainder_at : (word n : ℕ) (t : Bool) → (n == 0) ≡ t → cond t 0 (word % n) < max n 1
remainder_at word n true e = omega arith
remainder_at word n false e = let some : 0 < n = grind (arith, eqb-false n 0 e) in omega (arith, mod-lt word some)

pub remainder_small : (word n : ℕ) → remainder word n < max n 1
remainder_small word n = remainder_at word n (n == 0) refl

-- ---- laws

inside : (low high : ℤ) (k n distance : ℕ) → n ≤ distance + 1 → k < max n 1 → pos distance ≡ high -ℤ low → int_le low (low +ℤ pos k) && int_le (low +ℤ pos k) high ≡ true
inside low high k n distance most small same = both (int_le low (low +ℤ pos k)) (int_le (low +ℤ pos k) high) (grind (arith, ints)) (grind (arith, ints, most, small, same))

pub in_range : (low high : ℤ) (words : Lcg) → int_le low high ≡ true → int_le low (number_in low high words).0 && int_le (number_in low high words).0 high ≡ true
unfolding below
in_range low high words e =
    let n = min (size_of low high) WORD_LIMIT in
    let k = remainder (pcg32 words).0 n in
    let small = remainder_small (pcg32 words).0 n in
    let room : pos 0 ≤ℤ (high -ℤ low) = grind (arith, ints) in
    let size = size_some low high e in
    let same = abs_is (high -ℤ low) room in
    inside low high k n (unsigned_abs (high -ℤ low)) (omega (arith, size)) small same

pub number_within : (leaf : LeafOf) (words : Lcg) → int_le leaf.low leaf.high ≡ true → admits leaf (number_in leaf.low leaf.high words).0 ≡ true
number_within leaf words e = in_range leaf.low leaf.high words e

pub amount_within : (leaf : LeafOf) (n : ℕ) → int_le (pos 0) leaf.low ≡ true → int_le leaf.low (pos RAISED_LIMIT) ≡ true → int_le leaf.low leaf.high ≡ true → admits leaf (pos (amount leaf n)) ≡ true
amount_within leaf n least few range =
    let low : pos (natural leaf.low) ≡ leaf.low = natural_is leaf.low (grind (arith, ints)) in
    let k = max (min (natural leaf.high) n) (natural leaf.low) in
    let high : pos (natural leaf.high) ≡ leaf.high = natural_is leaf.high (grind (arith, ints)) in
    subst (λ (k : ℕ). admits leaf (pos k) ≡ true) (sym (ap (λ t. cond t (max (min (natural leaf.high) n) (natural leaf.low)) (min (natural leaf.high) n)) few))
    (both (int_le leaf.low (pos k)) (int_le (pos k) leaf.high) (grind (arith, ints, low)) (grind (arith, ints, low, high)))

pub times_many : {A : Type 0} (n : ℕ) (draw : Drawing A) (words : Lcg) → length (times n draw words).0 ≡ n
unfolding times
times_many zero draw words = refl
times_many (suc n) draw words = ap suc (times_many n draw (draw words).1)

pub altered_length : (body : List ℕ) (index : ℕ) → length (altered body index) ≡ length body
unfolding altered
altered_length body index = length-set body (index % length body) _
