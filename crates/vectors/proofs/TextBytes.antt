-- The bytes that are drawn of a text may stand in it.
use Rattle.std.proofs.Common.{◌≡◌, ◌<◌, ℕ, ◌+◌, ◌==◌, ◌&&◌, ◌||◌, Bool, true, false, not, cond, ℤ, pos, int_le, refl, sym, ap, subst, ◌∙◌, arith}
use Rattle.std.specs.Prelude.{◌≤ℤ◌}
use Rattle.std.proofs.lemmas.Bool.Decides.{nat_tests}
use Rattle.std.proofs.lemmas.Int.{ints}
use Rattle.rand_pcg.specs.Lcg.{Lcg}
use Rattle.sbe_types.specs.declared.kind.Leaf.{Leaf as LeafOf}
use Rattle.sbe_types.specs.Numbers.{natural}
use Rattle.sbe_types.specs.Shown.{admits}
use Rattle.sbe_types.specs.Shows.{is_ranged, is_text_byte}
use Rattle.vectors.specs.declared.numbers.TheConstants.{LAST_BYTE, FIRST_LETTER, LETTERS}
use Rattle.vectors.specs.Drawing.{◌>>=◌, always, below}
use Rattle.vectors.specs.Values.{number_in, least_byte, has_bytes, byte_of, text_byte_drawn}
use Rattle.vectors.proofs.Wholes.{natural_is, in_range, both}

first : (a b : Bool) → a && b ≡ true → a ≡ true
first true b h = refl
first false b h = h

second : (a b : Bool) → a && b ≡ true → b ≡ true
second true b h = h
second false b h = cc

not_zero : (b : ℕ) → 0 < b → not (b == 0) ≡ true
not_zero b h = let is : (b == 0) ≡ false = grind (arith, nat_tests) in ap not is

-- the least byte is 1 or more, and in the range
least_facts : (low high : ℤ) (t : Bool) → int_le low (pos 0) && int_le (pos 0) high ≡ t → pos 0 ≤ℤ low → cond t (pos 1) low ≤ℤ high → (pos 1 ≤ℤ cond t (pos 1) low) × (low ≤ℤ cond t (pos 1) low)
least_facts low high true e from within = (omega (arith, ints), grind (arith, ints, first (int_le low (pos 0)) (int_le (pos 0) high) e))
least_facts low high false e from within = by (int_le low (pos 0)) refl
  where
    by : (t : Bool) → int_le low (pos 0) ≡ t → (pos 1 ≤ℤ low) × (low ≤ℤ low)
    by true k =
        let there : int_le (pos 0) high ≡ true = grind (arith, ints, from, within) in
        absurd (apart (sym (both (int_le low (pos 0)) (int_le (pos 0) high) k there) ∙ e))
      where
        apart : ◌≡◌ {A = Bool} true false → ⊥
        apart h = cc
    by false k = (grind (arith, ints, k), omega (arith, ints))

-- a byte of a range
ranged_byte : (leaf : LeafOf) (x : ℤ) → pos 0 ≤ℤ leaf.low → leaf.high ≤ℤ pos LAST_BYTE → int_le (least_byte leaf) x && int_le x leaf.high ≡ true → (0 < byte_of x) × (admits leaf (pos (byte_of x)) ≡ true)
ranged_byte leaf x from to h =
    let least : least_byte leaf ≤ℤ x = grind (arith, ints, first (int_le (least_byte leaf) x) (int_le x leaf.high) h) in
    let most : x ≤ℤ leaf.high = grind (arith, ints, second (int_le (least_byte leaf) x) (int_le x leaf.high) h) in
    let facts = least_facts leaf.low leaf.high (admits leaf (pos 0)) refl from (omega (arith, ints, least, most)) in
    let same : pos (natural x) ≡ x = natural_is x (omega (arith, ints, least, facts.0)) in
    let is : pos (byte_of x) ≡ x = omega (arith, ints, same, most, to) in (
      omega (arith, ints, is, least, facts.0),
      subst (λ (z : ℤ). int_le leaf.low z && int_le z leaf.high ≡ true) (sym is)
          (both (int_le leaf.low x) (int_le x leaf.high) (grind (arith, ints, least, facts.1)) (grind (arith, ints, most))),
    )

byte_may : (leaf : LeafOf) (b : ℕ) (t : Bool) → is_ranged leaf.shape ≡ t → 0 < b → cond t (admits leaf (pos b)) true ≡ true → is_text_byte leaf b ≡ true
byte_may leaf b t e some h =
    both (not (b == 0)) (cond (is_ranged leaf.shape) (admits leaf (pos b)) true) (not_zero b some) (ap (λ r. cond r (admits leaf (pos b)) true) e ∙ h)

pub text_byte_stands : (leaf : LeafOf) (words : Lcg) → int_le (pos 0) leaf.low ≡ true → int_le leaf.high (pos LAST_BYTE) ≡ true → has_bytes leaf ≡ true → is_text_byte leaf (text_byte_drawn leaf words).0 ≡ true
text_byte_stands leaf words from to some = by (is_ranged leaf.shape) refl
  where
    drawn_by : Bool → ℕ
    drawn_by t = (cond t (number_in (least_byte leaf) leaf.high >>= (λ n. always (byte_of n))) (below LETTERS >>= (λ n. always (FIRST_LETTER + n))) words).0

    by : (t : Bool) → is_ranged leaf.shape ≡ t → is_text_byte leaf (text_byte_drawn leaf words).0 ≡ true
    by true e =
        let within : int_le (least_byte leaf) leaf.high ≡ true = sym (ap (λ t. not t || int_le (least_byte leaf) leaf.high) e) ∙ some in
        let byte = ranged_byte leaf (number_in (least_byte leaf) leaf.high words).0 (grind (arith, ints, from)) (grind (arith, ints, to)) (in_range (least_byte leaf) leaf.high words within) in
        subst (λ b. is_text_byte leaf b ≡ true) (sym (ap drawn_by e)) (byte_may leaf (drawn_by true) true e byte.0 byte.1)
    by false e = subst (λ b. is_text_byte leaf b ≡ true) (sym (ap drawn_by e)) (byte_may leaf (drawn_by false) false e (omega arith) refl)
