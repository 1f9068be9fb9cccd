-- A number's bytes and the number that bytes show undo one another.
use Rattle.std.proofs.Common.{◌≡◌, ℕ, ◌-◌, ◌*◌, ◌^◌, ◌<◌, Bool, true, false, List, length, Option, Some, None, ℤ, pos, negsuc, refl, ap, ◌∙◌, arith}
use Rattle.std.specs.Prelude.{if◌then◌else◌}
use Rattle.std.proofs.lemmas.Int.{ints}
use Rattle.std.proofs.lemmas.Bool.Decides.{nat_tests}
use Rattle.byte_digits.specs.Digits.{IsBytes}
use Rattle.byte_digits.proofs.HighFirst as high
use Rattle.byte_digits.proofs.LowFirst as low
use Rattle.sbe_types.specs.declared.kind.Order.{Order}
use Rattle.sbe_types.specs.declared.kind.Order.TheVariants.{Little, Big}
use Rattle.sbe_types.specs.declared.kind.Primitive.{Primitive}
use Rattle.sbe_types.specs.declared.kind.Primitive.TheVariants.{Char, I8, I16, I32, I64, U8, U16, U32, U64}
use Rattle.sbe_types.specs.Numbers.{signed_of, unsigned_of, is_signed, sum_in, digits_in, has_bytes, number_of, bytes_of, prim_width}
use Rattle.sbe_types.proofs.NumberLemmas.{sum_fits}

sum-digits : (order : Order) (k n : ℕ) → n < 256 ^ k → sum_in order (digits_in order k n) ≡ n
sum-digits Big k n h = high.number-digits-fit k n h
sum-digits Little k n h = low.number-digits-fit k n h

digits-sum : (order : Order) (k : ℕ) (bytes : List ℕ) → length bytes ≡ k → IsBytes bytes → digits_in order k (sum_in order bytes) ≡ bytes
digits-sum Big k bytes len h = high.digits-number k bytes len h
digits-sum Little k bytes len h = low.digits-number k bytes len h

length-digits_in : (order : Order) (k n : ℕ) → length (digits_in order k n) ≡ k
length-digits_in Big k n = high.length-digits k n
length-digits_in Little k n = low.length-digits k n

IsBytes-digits_in : (order : Order) (k n : ℕ) → IsBytes (digits_in order k n)
IsBytes-digits_in Big k n = high.IsBytes-digits k n
IsBytes-digits_in Little k n = low.IsBytes-digits k n

-- a number with the sign that so many values give it
signed_if : Bool → ℕ → ℕ → ℤ
signed_if signed values m = if signed then signed_of values m else pos m

-- the half of a primitive's values, which are an even number
half_of : Primitive → ℕ
half_of p = 128 * 256 ^ (prim_width p - 1)

values_even : (p : Primitive) → 256 ^ prim_width p ≡ 2 * half_of p
unfolding half_of
values_even Char = refl
values_even I8 = refl
values_even I16 = refl
values_even I32 = refl
values_even I64 = refl
values_even U8 = refl
values_even U16 = refl
values_even U32 = refl
values_even U64 = refl

unsigned_told : (signed : Bool) (half m : ℕ) (n : ℤ) → unsigned_of signed (2 * half) n ≡ Some m → (m < 2 * half) × (signed_if signed (2 * half) m ≡ n)
unfolding signed_if
unsigned_told false half m (pos n) h = grind (arith, nat_tests, h)
unsigned_told false half m (negsuc n) h = cc
unsigned_told true half m (pos n) h = grind (arith, ints, nat_tests, h)
unsigned_told true half m (negsuc n) h = grind (arith, ints, nat_tests, h)

unsigned_is : (p : Primitive) (m : ℕ) (n : ℤ) → unsigned_of (is_signed p) (256 ^ prim_width p) n ≡ Some m → (m < 256 ^ prim_width p) × (signed_if (is_signed p) (256 ^ prim_width p) m ≡ n)
unsigned_is p m n = rw (values_even p) (unsigned_told (is_signed p) (half_of p) m n)

unsigned_back : (signed : Bool) (half m : ℕ) → m < 2 * half → unsigned_of signed (2 * half) (signed_if signed (2 * half) m) ≡ Some m
unfolding signed_if
unsigned_back false half m h = grind (arith, nat_tests)
unsigned_back true half m h = grind (arith, ints, nat_tests)

-- an unsigned number that is there, and its bytes
has_told : (order : Order) (k : ℕ) (o : Option ℕ) (bytes : List ℕ) → has_bytes order k o ≡ Some bytes → (m : ℕ) × (o ≡ Some m) × (bytes ≡ digits_in order k m)
has_told order k None bytes h = cc
has_told order k (Some m) bytes h = (m, refl, cc)

-- the unsigned number after a primitive's bytes
after : (order : Order) (p : Primitive) (n : ℤ) (bytes : List ℕ) → bytes_of order p n ≡ Some bytes →
    (m : ℕ) × (bytes ≡ digits_in order (prim_width p) m) × (m < 256 ^ prim_width p) × (signed_if (is_signed p) (256 ^ prim_width p) m ≡ n)
after order p n bytes h =
    let told = has_told order (prim_width p) (unsigned_of (is_signed p) (256 ^ prim_width p) n) bytes h in
    let number = unsigned_is p told.0 n told.1 in
    (told.0, told.2, number.0, number.1)

pub number_of-bytes_of : (order : Order) (p : Primitive) (n : ℤ) (bytes : List ℕ) → bytes_of order p n ≡ Some bytes → number_of order p bytes ≡ n
unfolding signed_if
number_of-bytes_of order p n bytes h =
    let told = after order p n bytes h in
    let sum : sum_in order bytes ≡ told.0 = ap (sum_in order) told.1 ∙ sum-digits order (prim_width p) told.0 told.2 in
    ap (signed_if (is_signed p) (256 ^ prim_width p)) sum ∙ told.3

pub bytes_of-width : (order : Order) (p : Primitive) (n : ℤ) (bytes : List ℕ) → bytes_of order p n ≡ Some bytes → (length bytes ≡ prim_width p) × IsBytes bytes
bytes_of-width order p n bytes h =
    let told = after order p n bytes h in
    rw told.1 (length-digits_in order (prim_width p) told.0, IsBytes-digits_in order (prim_width p) told.0)

pub bytes_of-number_of : (order : Order) (p : Primitive) (bytes : List ℕ) → length bytes ≡ prim_width p → IsBytes bytes → bytes_of order p (number_of order p bytes) ≡ Some bytes
unfolding signed_if
bytes_of-number_of order p bytes len good =
    let fits : sum_in order bytes < 256 ^ prim_width p = rw (← len) (sum_fits order bytes good) in
    let back : unsigned_of (is_signed p) (256 ^ prim_width p) (number_of order p bytes) ≡ Some (sum_in order bytes) = rw (values_even p) (unsigned_back (is_signed p) (half_of p) (sum_in order bytes) (rw (← values_even p) fits)) in
    ap (has_bytes order (prim_width p)) back ∙ ap Some (digits-sum order (prim_width p) bytes len good)
