-- The numbers of a primitive have bytes.
use Rattle.std.proofs.Common.{◌≡◌, ℕ, suc, ◌*◌, Bool, true, false, cond, Some, None, ℤ, pos, negsuc, refl, ap, ◌∙◌, arith}
use Rattle.std.specs.Prelude.{◌&&◌, int_le, nat_lt, ◌-◌}
use Rattle.std.proofs.lemmas.Int.{ints}
use Rattle.std.proofs.lemmas.Bool.Decides.{nat_tests}
use Rattle.sbe_types.specs.declared.kind.Primitive.{Primitive}
use Rattle.sbe_types.specs.declared.kind.Primitive.TheVariants.{Char, I8, I16, I32, I64, U8, U16, U32, U64}
use Rattle.sbe_types.specs.Numbers.{unsigned_of}
use Rattle.schema_rules.specs.Ranges.{numbers_of, is_number_of}
use Rattle.writing_laws.specs.Writable.{HasNumber}

pub untrue : ◌≡◌ {A = Bool} false true → ⊥
untrue k = cc

pub both_true : (t u : Bool) → (t && u) ≡ true → (t ≡ true) × (u ≡ true)
both_true true u h = (refl, h)
both_true false u h = absurd (untrue h)

pub are_true : (t u : Bool) → t ≡ true → u ≡ true → (t && u) ≡ true
are_true t u h k = ap (λ b. b && u) h ∙ k

-- the numbers from 0 to g, and from -(g + 1) to g
unsigned_by : (g : ℕ) (n : ℤ) → (int_le (pos 0) n && int_le n (pos g)) ≡ true → (m : ℕ) × (unsigned_of false (suc g) n ≡ Some m)
unsigned_by g (pos k) h =
    let small : nat_lt k (suc g) ≡ true = grind (arith, ints, nat_tests, h) in
    (k, ap (λ t. cond t (Some k) None) small)
unsigned_by g (negsuc k) h = absurd (untrue h)

signed_by : (g : ℕ) (n : ℤ) → (int_le (negsuc g) n && int_le n (pos g)) ≡ true → (m : ℕ) × (unsigned_of true (2 * suc g) n ≡ Some m)
signed_by g (pos k) h =
    let small : nat_lt (2 * k) (2 * suc g) ≡ true = grind (arith, ints, nat_tests, h) in
    (k, ap (λ t. cond t (Some k) None) small)
signed_by g (negsuc k) h =
    let small : nat_lt (2 * k) (2 * suc g) ≡ true = grind (arith, ints, nat_tests, h) in
    (2 * suc g - suc k, ap (λ t. cond t (Some (2 * suc g - suc k)) None) small)

pub has_number : (p : Primitive) (n : ℤ) → is_number_of p n ≡ true → HasNumber p n
has_number Char n h = unsigned_by 255 n h
has_number I8 n h = signed_by 127 n h
has_number I16 n h = signed_by 32767 n h
has_number I32 n h = signed_by 2147483647 n h
has_number I64 n h = signed_by 9223372036854775807 n h
has_number U8 n h = unsigned_by 255 n h
has_number U16 n h = unsigned_by 65535 n h
has_number U32 n h = unsigned_by 4294967295 n h
has_number U64 n h = unsigned_by 18446744073709551615 n h

-- ---- between numbers

le_through : (a b c : ℤ) → int_le a b ≡ true → int_le b c ≡ true → int_le a c ≡ true
le_through (pos a) (pos b) (pos c) h k = grind (arith, ints, nat_tests, h, k)
le_through (pos a) (pos b) (negsuc c) h k = absurd (untrue k)
le_through (pos a) (negsuc b) c h k = absurd (untrue h)
le_through (negsuc a) (pos b) (pos c) h k = refl
le_through (negsuc a) (pos b) (negsuc c) h k = absurd (untrue k)
le_through (negsuc a) (negsuc b) (pos c) h k = refl
le_through (negsuc a) (negsuc b) (negsuc c) h k = grind (arith, ints, nat_tests, h, k)

-- what lies between two numbers of a primitive is one
pub number_between : (p : Primitive) (low high n : ℤ) → is_number_of p low ≡ true → is_number_of p high ≡ true → (int_le low n && int_le n high) ≡ true → is_number_of p n ≡ true
number_between p low high n h k within =
    let least = (numbers_of p).least in
    let greatest = (numbers_of p).greatest in
    let two = both_true (int_le low n) (int_le n high) within in
    are_true (int_le least n) (int_le n greatest)
    (le_through least low n (both_true (int_le least low) (int_le low greatest) h).0 two.0)
    (le_through n high greatest two.1 (both_true (int_le least high) (int_le high greatest) k).1)
