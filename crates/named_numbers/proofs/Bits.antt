-- Which bits of a set are choices.
use Rattle.std.proofs.Common.{◌≡◌, ℕ, zero, suc, ◌+◌, ◌<◌, ◌≤◌, ◌^◌, ◌==◌, ◌&&◌, Bool, true, false, List, [], ◌∷◌, ℤ, pos, negsuc, Some, None, ◌*◌, ◌%◌, nat_lt, subst, refl, sym, ap, ap₂, ◌∙◌, arith, drop, length, get_or, drop-cons, add-one, inl, inr}
use Rattle.std.specs.Prelude.{◌||◌, if◌then◌else◌}
use Rattle.std.specs.Ordering.{int_eq}
use Rattle.std.specs.Int.{bit_at, bit_not, w64}
use lib.Bits.{bit_and}
use Rattle.std.proofs.lemmas.Bool.Decides.{nat_tests}
use borrow.Author.Tests.{ltb-true}
use Rattle.std.proofs.Common.{eq-eqb}
use Rattle.std.proofs.lemmas.Bool.{and_parts, cases_lt, eqb-true}
use Rattle.std.proofs.lemmas.Nat.Bits.{same_from_bits_below, bit_at-zero, bit_at_clear_same, bit_at_clear_other}
use Rattle.sbe_types.specs.declared.kind.Named.{Named}
use Rattle.sbe_types.specs.Shown.{is_listed, has_listed_bits}
use Rattle.named_numbers.specs.Bits.{bit_of}

-- the bit is clear, or one of the choices
abbrev is_met : List Named → ℕ → ℕ → Bool
is_met names n k = bit_at n k == 0 || is_listed names (pos k)

met_step : (e r : Bool) (n m : ℕ) → m ≡ (if e then 0 else n) → (m == 0 || r) ≡ (n == 0 || (e || r))
met_step true r n m h = rw h (sym (or_true (n == 0)))
  where
    or_true : (b : Bool) → (b || true) ≡ true
    or_true true = refl
    or_true false = refl
met_step false r n m h = rw h refl

-- one choice's bit is cleared
pub met_next : (names : List Named) (i : ℕ) (x : Named) (left cleared k : ℕ) → i < length names → x ≡ get_or names i x
    → bit_at cleared k ≡ (if int_eq x.number (pos k) then 0 else bit_at left k)
    → (bit_at cleared k == 0 || is_listed (drop (i + 1) names) (pos k)) ≡ (bit_at left k == 0 || is_listed (drop i names) (pos k))
met_next names i x left cleared k h is cut =
    let there : drop i names ≡ x ∷ drop (i + 1) names = rw add-one (drop-cons names i x h ∙ ap (λ y. y ∷ drop (suc i) names) (sym is)) in
    met_step (int_eq x.number (pos k)) (is_listed (drop (i + 1) names) (pos k)) (bit_at left k) (bit_at cleared k) cut
    ∙ ap (λ rest. bit_at left k == 0 || is_listed rest (pos k)) (sym there)

same_listed : (names : List Named) (m n bits : ℕ) → ((k : ℕ) → k < m → is_met [] n k ≡ is_met names bits k) → has_listed_bits [] m n ≡ has_listed_bits names m bits
same_listed names zero n bits h = refl
same_listed names (suc m) n bits h =
    ap₂ (λ x y. x && y) (same_listed names m n bits (λ k lt. h k (omega arith))) (h m (omega arith))

clear_by : (b : Bool) → (b || false) ≡ true → b ≡ true
clear_by true h = refl
clear_by false h = h

clear_at : (m n k : ℕ) → has_listed_bits [] m n ≡ true → k < m → bit_at n k ≡ 0
clear_at zero n k h lt = absurd (omega arith)
clear_at (suc m) n k h lt =
    let parts = and_parts (has_listed_bits [] m n) (is_met [] n m) h in
    elim (cases_lt k m) [
      | inl below ↦ clear_at m n k parts.0 below
      | inr top ↦
          let e : k ≡ m = omega arith in
          rw e (eqb-true _ _ (clear_by (bit_at n m == 0) parts.1))
    ]

none_set : (n : ℕ) → n < 2 ^ 64 → has_listed_bits [] 64 n ≡ true → n ≡ 0
none_set n within h = same_from_bits_below 64 n 0 within (omega arith) (λ i lt. clear_at 64 n i h lt ∙ sym (bit_at-zero i))

same_test : (a b : Bool) → (a ≡ true → b ≡ true) → (b ≡ true → a ≡ true) → a ≡ b
same_test true b f g = sym (f refl)
same_test false true f g = g refl
same_test false false f g = refl

-- nothing is left exactly where each bit is a choice
pub none_left : (names : List Named) (left bits : ℕ) → left < 2 ^ 64 → ((k : ℕ) → k < 64 → is_met [] left k ≡ is_met names bits k)
    → (left == 0) ≡ has_listed_bits names 64 bits
none_left names left bits within h =
    same_test (left == 0) (has_listed_bits [] 64 left)
    (λ e. ap (has_listed_bits [] 64) (eqb-true left 0 e) ∙ refl)
    (λ e. ap (λ n. n == 0) (none_set left within e))
    ∙ same_listed names 64 left bits h

-- ---- one bit

some_is : {k j : ℕ} → Some j ≡ Some k → j ≡ k
some_is e = cc

placed : (j k : ℕ) (b : Bool) → nat_lt j 64 ≡ b → (if b then Some j else None) ≡ Some k → (pos j ≡ pos k) × (k < 64)
placed j k true lt e = (ap pos (some_is e), omega (arith, ltb-true j 64 lt, some_is e))
placed j k false lt e = absurd cc

pub place_of : (n : ℤ) (k : ℕ) → bit_of n ≡ Some k → (n ≡ pos k) × (k < 64)
place_of (pos j) k h = placed j k (nat_lt j 64) refl h
place_of (negsuc j) k h = absurd cc

cut_by : (bits k i : ℕ) (b : Bool) → (k == i) ≡ b → k < 64 → i < 64 → bit_at (bit_and bits (bit_not w64 (1 * 2 ^ k % 2 ^ 64))) i ≡ (if b then 0 else bit_at bits i)
cut_by bits k i true e within lt =
    subst (λ j. bit_at (bit_and bits (bit_not w64 (1 * 2 ^ k % 2 ^ 64))) j ≡ 0) (eqb-true k i e) (bit_at_clear_same w64 bits k within)
cut_by bits k i false e within lt =
    bit_at_clear_other w64 bits k within i lt (λ same. let found = eq-eqb k i (sym same) in absurd cc)

same_number : (k i : ℕ) → (k == i) ≡ int_eq (pos k) (pos i)
same_number k i = grind (arith, nat_tests)

pub bit_cleared : (bits k i : ℕ) (n : ℤ) → bit_of n ≡ Some k → i < 64 → bit_at (bit_and bits (bit_not w64 (1 * 2 ^ k % 2 ^ 64))) i ≡ (if int_eq n (pos i) then 0 else bit_at bits i)
bit_cleared bits k i n h lt =
    let place = place_of n k h in
    subst (λ m. bit_at (bit_and bits (bit_not w64 (1 * 2 ^ k % 2 ^ 64))) i ≡ (if int_eq m (pos i) then 0 else bit_at bits i)) (sym place.0) (cut_by bits k i (int_eq (pos k) (pos i)) (same_number k i) place.1 lt)

never : (b : Bool) (x : ℕ) → b ≡ false → x ≡ (if b then 0 else x)
never b x h = rw h refl

pub no_bit_cleared : (bits i : ℕ) (n : ℤ) → bit_of n ≡ None → i < 64 → bit_at bits i ≡ (if int_eq n (pos i) then 0 else bit_at bits i)
no_bit_cleared bits i (pos j) h lt =
    let far : 64 ≤ j = grind (arith, nat_tests) in
    never (int_eq (pos j) (pos i)) (bit_at bits i) (grind (arith, nat_tests))
no_bit_cleared bits i (negsuc j) h lt = refl
