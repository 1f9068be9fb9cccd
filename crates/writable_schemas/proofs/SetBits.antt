-- A set of choices is a number of its primitive.
use Rattle.std.proofs.Common.{◌≡◌, inl, inr, ℕ, zero, suc, ◌+◌, ◌*◌, ◌^◌, ◌<◌, ◌≤◌, Bool, true, false, cond, List, [], ◌∷◌, Some, None, pos, refl, sym, ap, ◌∙◌, subst, arith}
use Rattle.std.specs.Prelude.{◌||◌, ◌==◌, nat_lt, ◌/◌}
use Rattle.std.specs.Int.{bit_at}
use Rattle.std.specs.List.{AllByRecursion}
use Rattle.std.specs.Ordering.{int_eq}
use Rattle.std.proofs.lemmas.Bool.{cases_lt}
use Rattle.std.proofs.lemmas.Bool.Decides.{nat_tests, Decides-eqb, Decides-int_eq}
use Rattle.std.proofs.Math.Nat.{div-lt_iff_lt-mul, mod-eq_of_lt, two-pow-succ}
use Rattle.sbe_types.specs.declared.kind.Named.{Named}
use Rattle.sbe_types.specs.declared.kind.Primitive.{Primitive}
use Rattle.sbe_types.specs.declared.kind.Primitive.TheVariants.{Char, I8, I16, I32, I64, U8, U16, U32, U64}
use Rattle.sbe_types.specs.Numbers.{prim_width, is_signed}
use Rattle.sbe_types.specs.Shown.{is_listed, has_listed_bits}
use Rattle.schema_rules.specs.TypeRules.{is_set_primitive}
use Rattle.schema_facts.specs.InOrder.{IsBitOf}
use Rattle.writing_laws.specs.Writable.{HasNumber}
use Rattle.writable_schemas.proofs.WholeNumbers.{untrue, both_true}

-- ---- a number without its highest bits

pub power_some : (k : ℕ) → 0 < 2 ^ k
power_some zero = omega arith
power_some (suc k) = omega (arith, power_some k, two-pow-succ k)

-- a number below 2 ^ (k + 1) whose bit k is 0 is below 2 ^ k
without_bit : (n k : ℕ) → n < 2 ^ suc k → bit_at n k ≡ 0 → n < 2 ^ k
without_bit n k h none =
    let double : n < 2 * 2 ^ k = omega (arith, h, two-pow-succ k) in
    let small : n / 2 ^ k < 2 = (div-lt_iff_lt-mul (power_some k)).1 double in
    let quotient : n / 2 ^ k ≡ 0 = sym (mod-eq_of_lt small) ∙ none in
    let under : n / 2 ^ k < 1 = omega (arith, quotient) in
    let single : n < 1 * 2 ^ k = (div-lt_iff_lt-mul (power_some k)).0 under in
    omega (arith, single)

without_bits : (n w d : ℕ) → n < 2 ^ (d + w) → ((k : ℕ) → w ≤ k → k < d + w → bit_at n k ≡ 0) → n < 2 ^ w
without_bits n w zero h none = let same : zero + w ≡ w = omega arith in subst (λ k. n < 2 ^ k) same h
without_bits n w (suc d) h none =
    let same : suc d + w ≡ suc (d + w) = omega arith in
    without_bits n w d (without_bit n (d + w) (subst (λ k. n < 2 ^ k) same h) (none (d + w) (omega arith) (omega arith))) (λ k least most. none k least (omega (arith, most)))

-- ---- bits that are listed

either : (t u : Bool) → (t || u) ≡ true → u ≡ false → t ≡ true
either true u h k = refl
either false u h k = absurd (untrue (sym k ∙ h))

bit_listed : (names : List Named) (m n k : ℕ) → has_listed_bits names m n ≡ true → k < m → (bit_at n k == 0 || is_listed names (pos k)) ≡ true
bit_listed names zero n k h less = absurd (omega (arith, less))
bit_listed names (suc m) n k h less =
    let two = both_true (has_listed_bits names m n) (bit_at n m == 0 || is_listed names (pos m)) h in
    elim (cases_lt k m) [
      | inl below ↦ bit_listed names m n k two.0 below
      | inr not_below ↦
          let same : m ≡ k = omega (arith, less, not_below) in
          subst (λ j. (bit_at n j == 0 || is_listed names (pos j)) ≡ true) same two.1
    ]

-- no listed bit lies after the primitive's
listed_within : (bits k : ℕ) (names : List Named) → AllByRecursion (λ (v : Named). IsBitOf bits v.number) names → 8 * bits ≤ k → is_listed names (pos k) ≡ false
listed_within bits k [] all far = refl
listed_within bits k (v ∷ vs) all far = by (int_eq v.number (pos k)) refl (listed_within bits k vs all.1 far)
  where
    by : (t : Bool) → int_eq v.number (pos k) ≡ t → is_listed vs (pos k) ≡ false → (t || is_listed vs (pos k)) ≡ false
    by true e rest =
        let within : k < 8 * bits = subst (IsBitOf bits) ((Decides-int_eq v.number (pos k)).0 e) all.0 in
        absurd (omega (arith, within, far))
    by false e rest = rest

pub choices_below : (bits n : ℕ) (names : List Named) → AllByRecursion (λ (v : Named). IsBitOf bits v.number) names → (d : ℕ) → d + 8 * bits ≡ 64 → n < 2 ^ 64 → (m : ℕ) → m ≡ 64 → has_listed_bits names m n ≡ true → n < 2 ^ (8 * bits)
choices_below bits n names all d whole small m many h =
    let within : n < 2 ^ (d + 8 * bits) = subst (λ k. n < 2 ^ k) (sym whole) small in
    without_bits n (8 * bits) d within
    (λ k least most.
    let found = bit_listed names m n k h (omega (arith, most, whole, many)) in
    (Decides-eqb (bit_at n k) 0).0 (either (bit_at n k == 0) (is_listed names (pos k)) found (listed_within bits k names all least)))

below_some : (n values : ℕ) → n < values → (m : ℕ) × (cond (nat_lt n values) (Some n) None ≡ Some m)
below_some n values h = let small : nat_lt n values ≡ true = grind (arith, nat_tests) in (n, ap (λ t. cond t (Some n) None) small)

-- a set whose bits are listed is a number of its primitive
pub choices_number : (p : Primitive) (names : List Named) → is_set_primitive p ≡ true → AllByRecursion (λ (v : Named). IsBitOf (prim_width p) v.number) names →
    (n m : ℕ) → n < 2 ^ 64 → m ≡ 64 → has_listed_bits names m n ≡ true → (is_signed p ≡ false) × HasNumber p (pos n)
choices_number U8 names set all n m small many h = (refl, below_some n 256 (choices_below 1 n names all 56 refl small m many h))
choices_number U16 names set all n m small many h = (refl, below_some n 65536 (choices_below 2 n names all 48 refl small m many h))
choices_number U32 names set all n m small many h = (refl, below_some n 4294967296 (choices_below 4 n names all 32 refl small m many h))
choices_number U64 names set all n m small many h = (refl, below_some n 18446744073709551616 (choices_below 8 n names all 0 refl small m many h))
choices_number Char names set all n m small many h = absurd (untrue set)
choices_number I8 names set all n m small many h = absurd (untrue set)
choices_number I16 names set all n m small many h = absurd (untrue set)
choices_number I32 names set all n m small many h = absurd (untrue set)
choices_number I64 names set all n m small many h = absurd (untrue set)

pub set_unsigned : (p : Primitive) → is_set_primitive p ≡ true → is_signed p ≡ false
set_unsigned U8 set = refl
set_unsigned U16 set = refl
set_unsigned U32 set = refl
set_unsigned U64 set = refl
set_unsigned Char set = absurd (untrue set)
set_unsigned I8 set = absurd (untrue set)
set_unsigned I16 set = absurd (untrue set)
set_unsigned I32 set = absurd (untrue set)
set_unsigned I64 set = absurd (untrue set)
