-- The words of std and of byteorder for numbers and their bytes are these.
use Rattle.std.proofs.Common.{◌≡◌, ℕ, zero, suc, ◌/◌, ◌%◌, ◌^◌, List, [], ◌∷◌, length, refl, sym, ap, ◌∙◌}
use Rattle.std.specs.Int.{bytes_high_first, bytes_low_first, byte_at}
use Rattle.std.proofs.Math.Nat.{div-one, div-div-eq-div-mul, pow-suc}
use Rattle.byteorder.specs.Numbers.{big_from-cons, little_from-cons}
use Rattle.byteorder.specs.Endian.{big_from, little_from, big_number, little_number}
use Rattle.byte_digits.specs.Digits.{number_high_first, number_low_first, digits_high_first, digits_low_first}

big_all : (bytes : List ℕ) → big_from 0 (length bytes) bytes ≡ number_high_first bytes
big_all [] = refl
big_all (b ∷ bytes) = rw (big_from-cons 0 (length bytes) b bytes, big_all bytes) refl

little_all : (bytes : List ℕ) → little_from 0 (length bytes) bytes ≡ number_low_first bytes
little_all [] = refl
little_all (b ∷ bytes) = rw (little_from-cons 0 (length bytes) b bytes, little_all bytes) refl

pub big_number-is : (k : ℕ) (bytes : List ℕ) → length bytes ≡ k → big_number k bytes ≡ number_high_first bytes
big_number-is k bytes len = ap (λ n. big_from 0 n bytes) (sym len) ∙ big_all bytes

pub little_number-is : (k : ℕ) (bytes : List ℕ) → length bytes ≡ k → little_number k bytes ≡ number_low_first bytes
little_number-is k bytes len = ap (λ n. little_from 0 n bytes) (sym len) ∙ little_all bytes

pub byte_at-is : (k n : ℕ) → byte_at k n ≡ n / 256 ^ k % 256
byte_at-is zero n = ap (λ q. q % 256) (sym (div-one n))
byte_at-is (suc k) n = refl

pub bytes_high_first-is : (k n : ℕ) → bytes_high_first k n ≡ digits_high_first k n
bytes_high_first-is zero n = refl
bytes_high_first-is (suc k) n = rw (byte_at-is k n, bytes_high_first-is k n) refl

pub bytes_low_first-is : (j k n : ℕ) → bytes_low_first j k n ≡ digits_low_first k (n / 256 ^ j)
bytes_low_first-is j zero n = refl
bytes_low_first-is j (suc k) n =
    let above : n / 256 ^ suc j ≡ n / 256 ^ j / 256 = ap (λ w. n / w) (pow-suc 256 j) ∙ sym (div-div-eq-div-mul n (256 ^ j) 256) in
    rw (byte_at-is j n, bytes_low_first-is (suc j) k n, above) refl
