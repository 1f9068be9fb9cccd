-- Digits with the lowest first: the number and its digits undo one another, and both orders are mirrors.
use Rattle.std.proofs.Common.{◌≡◌, ℕ, zero, suc, ◌+◌, ◌*◌, ◌/◌, ◌%◌, ◌^◌, ◌<◌, List, [], ◌∷◌, ◌++◌, length, reverse, refl, sym, ap, ◌∙◌, arith}
use Rattle.std.proofs.Math.Nat.{mod-eq_of_lt, mod-lt, mul_comm, pow-suc, div-one, div-div-eq-div-mul, mul_assoc}
use Rattle.std.proofs.Math.Arith.{mod-mul}
use Rattle.std.proofs.lemmas.Nat.{div-mul-add, mod-mul-add}
use Rattle.std.proofs.lemmas.List.{reverse-append}
use Rattle.std.proofs.lemmas.Grind.{reverse_onto}
use Rattle.byte_digits.specs.Digits.{IsBytes, number_high_first, number_low_first, digits_high_first, digits_low_first}
use Rattle.byte_digits.proofs.Bytes.{IsBytes-tail}
use Rattle.byte_digits.proofs.HighFirst as high

pub length-digits : (k n : ℕ) → length (digits_low_first k n) ≡ k
length-digits zero n = refl
length-digits (suc k) n = ap suc (length-digits k (n / 256))

pub IsBytes-digits : (k n : ℕ) → IsBytes (digits_low_first k n)
IsBytes-digits zero n i = omega arith
IsBytes-digits (suc k) n zero = mod-lt n (omega arith)
IsBytes-digits (suc k) n (suc i) = IsBytes-digits k (n / 256) i

-- the number of the lowest digits is the number without what stands above them
pub number-digits : (k n : ℕ) → number_low_first (digits_low_first k n) ≡ n % 256 ^ k
number-digits zero n = omega arith
number-digits (suc k) n =
    let split = mod-mul n {m = 256 ^ k} {c = 256} (high.power-positive k) (omega arith) in
    rw (number-digits k (n / 256), pow-suc 256 k, split) (omega arith)

pub number-lt : (bytes : List ℕ) → IsBytes bytes → number_low_first bytes < 256 ^ length bytes
number-lt [] h = omega arith
number-lt (b ∷ bytes) h =
    let rest = number-lt bytes (IsBytes-tail b bytes h) in
    let first : b < 256 = h 0 in
    rw (pow-suc 256 (length bytes)) (omega arith)

-- a number that fits is shown by its digits
pub number-digits-fit : (k n : ℕ) → n < 256 ^ k → number_low_first (digits_low_first k n) ≡ n
number-digits-fit k n h = number-digits k n ∙ mod-eq_of_lt h

-- bytes are the digits of the number that they show
pub digits-number : (k : ℕ) (bytes : List ℕ) → length bytes ≡ k → IsBytes bytes → digits_low_first k (number_low_first bytes) ≡ bytes
digits-number zero [] len h = refl
digits-number zero (b ∷ bytes) len h = absurd (omega arith)
digits-number (suc k) [] len h = absurd (omega arith)
digits-number (suc k) (b ∷ bytes) len h =
    let sum : b + 256 * number_low_first bytes ≡ number_low_first bytes * 256 + b = omega arith in
    let low : (b + 256 * number_low_first bytes) % 256 ≡ b = ap (λ s. s % 256) sum ∙ mod-mul-add (number_low_first bytes) 256 b (h 0) in
    let above : (b + 256 * number_low_first bytes) / 256 ≡ number_low_first bytes = ap (λ s. s / 256) sum ∙ div-mul-add (number_low_first bytes) 256 b (h 0) in
    rw (low, above, digits-number k bytes (omega arith) (IsBytes-tail b bytes h)) refl

-- bytes after bytes: those after count so many digits higher
pub number-joined : (xs ys : List ℕ) → number_low_first (xs ++ ys) ≡ number_low_first xs + 256 ^ length xs * number_low_first ys
number-joined [] ys = omega arith
number-joined (x ∷ xs) ys =
    let ih = number-joined xs ys in
    let worth : 256 ^ length xs * 256 * number_low_first ys ≡ 256 * (256 ^ length xs * number_low_first ys) = ap (λ w. w * number_low_first ys) (mul_comm (256 ^ length xs) 256) ∙ mul_assoc 256 (256 ^ length xs) (number_low_first ys) in
    rw (ih, pow-suc 256 (length xs), worth) (omega arith)

-- digits of digits: those below j, and those above
pub digits-joined : (j k n : ℕ) → digits_low_first (j + k) n ≡ digits_low_first j n ++ digits_low_first k (n / 256 ^ j)
digits-joined zero k n =
    let none : 0 + k ≡ k = omega arith in
    rw (none, div-one n) refl
digits-joined (suc j) k n =
    let count : suc j + k ≡ suc (j + k) = omega arith in
    let above : n / 256 / 256 ^ j ≡ n / 256 ^ suc j = div-div-eq-div-mul n 256 (256 ^ j) ∙ ap (λ w. n / w) (mul_comm 256 (256 ^ j) ∙ sym (pow-suc 256 j)) in
    rw (count, digits-joined j k (n / 256), above) refl

-- the same number, with the bytes the other way round
pub number-mirrored : (bytes : List ℕ) → number_low_first bytes ≡ number_high_first (reverse bytes)
number-mirrored [] = refl
number-mirrored (b ∷ bytes) =
    let last : number_high_first (reverse bytes ++ b ∷ []) ≡ number_high_first (reverse bytes) * 256 + b = high.number-joined (reverse bytes) (b ∷ []) ∙ omega arith in
    rw (reverse_onto bytes b [], last, number-mirrored bytes) (omega arith)

pub digits-mirrored : (k n : ℕ) → digits_low_first k n ≡ reverse (digits_high_first k n)
digits-mirrored zero n = refl
digits-mirrored (suc k) n =
    let count : suc k ≡ k + 1 = omega arith in
    let apart : digits_high_first (suc k) n ≡ digits_high_first k (n / 256) ++ n % 256 ∷ [] = ap (λ j. digits_high_first j n) count ∙ high.digits-joined k 1 n ∙ ap (λ q. digits_high_first k (n / 256) ++ q % 256 ∷ []) (div-one n) in
    let turned : reverse (digits_high_first (suc k) n) ≡ n % 256 ∷ reverse (digits_high_first k (n / 256)) = ap reverse apart ∙ reverse-append (digits_high_first k (n / 256)) (n % 256 ∷ []) in
    rw turned (ap (λ rest. n % 256 ∷ rest) (digits-mirrored k (n / 256)))
