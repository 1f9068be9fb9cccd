-- What byteorder reads is the number that the definitions give.
use Rattle.std.proofs.Common.{◌≡◌, ℕ, ◌^◌, ◌<◌, List, [], ◌∷◌, length, pos, refl, ap, ◌∙◌, arith}
use Rattle.std.specs.Prelude.{slice_index}
use Rattle.std.proofs.lemmas.Int.{ints}
use Rattle.std.proofs.lemmas.Bool.Decides.{nat_tests}
use Rattle.std.specs.Int.{cast_signed, w8, w16, w32, w64}
use Rattle.byteorder.specs.Endian.{big_number, little_number}
use Rattle.byte_digits.specs.Digits.{IsBytes}
use Rattle.byte_digits.proofs.HighFirst as high
use Rattle.byte_digits.proofs.LowFirst as low
use Rattle.byte_digits.proofs.Words.{big_number-is, little_number-is}
use Rattle.sbe_types.specs.declared.kind.Order.{Order}
use Rattle.sbe_types.specs.declared.kind.Order.TheVariants.{Little, Big}
use Rattle.sbe_types.specs.declared.kind.Primitive.{Primitive}
use Rattle.sbe_types.specs.declared.kind.Primitive.TheVariants.{Char, I8, I16, I32, I64, U8, U16, U32, U64}
use Rattle.sbe_types.specs.Numbers.{signed_of, sum_in, number_of, read_as, prim_width}

signed_is_8 : (n : ℕ) → n < 2 ^ 8 → cast_signed w8 n ≡ signed_of (2 ^ 8) n
signed_is_8 n h = grind (arith, ints, nat_tests)

signed_is_16 : (n : ℕ) → n < 2 ^ 16 → cast_signed w16 n ≡ signed_of (2 ^ 16) n
signed_is_16 n h = grind (arith, ints, nat_tests)

signed_is_32 : (n : ℕ) → n < 2 ^ 32 → cast_signed w32 n ≡ signed_of (2 ^ 32) n
signed_is_32 n h = grind (arith, ints, nat_tests)

signed_is_64 : (n : ℕ) → n < 2 ^ 64 → cast_signed w64 n ≡ signed_of (2 ^ 64) n
signed_is_64 n h = grind (arith, ints, nat_tests)

-- a reading that gives the sum in some order, and fits
read_is : (order : Order) (f : ℕ → List ℕ → ℕ) (p : Primitive) (bs : List ℕ) →
    f (prim_width p) bs ≡ sum_in order bs → (prim_width p ≡ 1 → slice_index bs 0 ≡ sum_in order bs) → sum_in order bs < 256 ^ prim_width p → read_as f p bs ≡ number_of order p bs
read_is order f Char bs is one fits = ap pos (one refl)
read_is order f U8 bs is one fits = ap pos (one refl)
read_is order f I8 bs is one fits = ap (cast_signed w8) (one refl) ∙ signed_is_8 (sum_in order bs) fits
read_is order f U16 bs is one fits = ap pos is
read_is order f I16 bs is one fits = ap (cast_signed w16) is ∙ signed_is_16 (sum_in order bs) fits
read_is order f U32 bs is one fits = ap pos is
read_is order f I32 bs is one fits = ap (cast_signed w32) is ∙ signed_is_32 (sum_in order bs) fits
read_is order f U64 bs is one fits = ap pos is
read_is order f I64 bs is one fits = ap (cast_signed w64) is ∙ signed_is_64 (sum_in order bs) fits

pub sum_fits : (order : Order) (bs : List ℕ) → IsBytes bs → sum_in order bs < 256 ^ length bs
sum_fits Big bs h = high.number-lt bs h
sum_fits Little bs h = low.number-lt bs h

one_byte : (order : Order) (bs : List ℕ) → length bs ≡ 1 → slice_index bs 0 ≡ sum_in order bs
one_byte order [] h = cc
one_byte Big (b ∷ []) h = omega arith
one_byte Little (b ∷ []) h = omega arith
one_byte order (b ∷ c ∷ bs) h = absurd (omega arith)

pub read_big : (p : Primitive) (bs : List ℕ) → length bs ≡ prim_width p → IsBytes bs → read_as big_number p bs ≡ number_of Big p bs
read_big p bs h b = read_is Big big_number p bs (big_number-is (prim_width p) bs h) (λ e. one_byte Big bs (h ∙ e)) (rw (← h) (sum_fits Big bs b))

pub read_little : (p : Primitive) (bs : List ℕ) → length bs ≡ prim_width p → IsBytes bs → read_as little_number p bs ≡ number_of Little p bs
read_little p bs h b = read_is Little little_number p bs (little_number-is (prim_width p) bs h) (λ e. one_byte Little bs (h ∙ e)) (rw (← h) (sum_fits Little bs b))
