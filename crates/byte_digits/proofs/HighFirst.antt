-- Digits with the highest first: the number and its digits undo one another.
use Rattle.std.proofs.Common.{◌≡◌, ℕ, zero, suc, ◌+◌, ◌*◌, ◌/◌, ◌%◌, ◌^◌, ◌<◌, List, [], ◌∷◌, ◌++◌, length, refl, sym, ap, ◌∙◌, arith, length-append}
use Rattle.std.proofs.Math.Nat.{add-mul, add_assoc, div-div-eq-div-mul, mod-eq_of_lt, mod-lt, mul_assoc, mul_comm, one-le-pow, pow-suc}
use Rattle.std.proofs.Math.Arith.{mod-mul}
use Rattle.std.proofs.lemmas.Nat.{mul-add-lt, div-mul-add, mod-mul-add, pow-add}
use Rattle.byte_digits.specs.Digits.{IsBytes, number_high_first, digits_high_first}
use Rattle.byte_digits.proofs.Bytes.{IsBytes-tail}

pub length-digits : (k n : ℕ) → length (digits_high_first k n) ≡ k
length-digits zero n = refl
length-digits (suc k) n = ap suc (length-digits k n)

pub IsBytes-digits : (k n : ℕ) → IsBytes (digits_high_first k n)
IsBytes-digits zero n i = omega arith
IsBytes-digits (suc k) n zero = mod-lt (n / 256 ^ k) (omega arith)
IsBytes-digits (suc k) n (suc i) = IsBytes-digits k n i

pub power-positive : (k : ℕ) → 0 < 256 ^ k
power-positive k = omega (arith, one-le-pow k 256 (omega arith))

-- the number of the lowest digits is the number without what stands above them
pub number-digits : (k n : ℕ) → number_high_first (digits_high_first k n) ≡ n % 256 ^ k
number-digits zero n = omega arith
number-digits (suc k) n =
    let split = mod-mul n {m = 256} {c = 256 ^ k} (omega arith) (power-positive k) in
    let power : 256 ^ suc k ≡ 256 * 256 ^ k = pow-suc 256 k ∙ mul_comm (256 ^ k) 256 in
    rw (length-digits k n, number-digits k n, power, split) refl

pub number-lt : (bytes : List ℕ) → IsBytes bytes → number_high_first bytes < 256 ^ length bytes
number-lt [] h = omega arith
number-lt (b ∷ bytes) h =
    let rest = number-lt bytes (IsBytes-tail b bytes h) in
    rw (pow-suc 256 (length bytes)) (mul-add-lt b (256 ^ length bytes) (number_high_first bytes) 256 (h 0) rest)

-- as many bytes that show the same number are the same
same_bytes : (xs ys : List ℕ) → length xs ≡ length ys → IsBytes xs → IsBytes ys → number_high_first xs ≡ number_high_first ys → xs ≡ ys
same_bytes [] [] n hx hy e = refl
same_bytes [] (y ∷ ys) n hx hy e = absurd (omega arith)
same_bytes (x ∷ xs) [] n hx hy e = absurd (omega arith)
same_bytes (x ∷ xs) (y ∷ ys) n hx hy e =
    let len : length xs ≡ length ys = omega arith in
    let worth = 256 ^ length xs in
    let lower : number_high_first xs < worth = number-lt xs (IsBytes-tail x xs hx) in
    let lower' : number_high_first ys < worth = rw len (number-lt ys (IsBytes-tail y ys hy)) in
    let sums : x * worth + number_high_first xs ≡ y * worth + number_high_first ys = e ∙ ap (λ k. y * 256 ^ k + number_high_first ys) (sym len) in
    let top : x ≡ y = sym (div-mul-add x worth (number_high_first xs) lower) ∙ ap (λ s. s / worth) sums ∙ div-mul-add y worth (number_high_first ys) lower' in
    let low : number_high_first xs ≡ number_high_first ys = sym (mod-mul-add x worth (number_high_first xs) lower) ∙ ap (λ s. s % worth) sums ∙ mod-mul-add y worth (number_high_first ys) lower' in
    let rest = same_bytes xs ys len (IsBytes-tail x xs hx) (IsBytes-tail y ys hy) low in
    cc

-- a number that fits is shown by its digits
pub number-digits-fit : (k n : ℕ) → n < 256 ^ k → number_high_first (digits_high_first k n) ≡ n
number-digits-fit k n h = number-digits k n ∙ mod-eq_of_lt h

-- bytes are the digits of the number that they show
pub digits-number : (k : ℕ) (bytes : List ℕ) → length bytes ≡ k → IsBytes bytes → digits_high_first k (number_high_first bytes) ≡ bytes
digits-number k bytes len h =
    let fits : number_high_first bytes < 256 ^ k = rw (← len) (number-lt bytes h) in
    same_bytes (digits_high_first k (number_high_first bytes)) bytes (length-digits k (number_high_first bytes) ∙ sym len) (IsBytes-digits k (number_high_first bytes)) h (number-digits-fit k (number_high_first bytes) fits)

-- bytes after bytes: those in front count so many digits higher
pub number-joined : (xs ys : List ℕ) → number_high_first (xs ++ ys) ≡ number_high_first xs * 256 ^ length ys + number_high_first ys
number-joined [] ys = omega arith
number-joined (x ∷ xs) ys =
    let ih = number-joined xs ys in
    let power : 256 ^ length (xs ++ ys) ≡ 256 ^ length xs * 256 ^ length ys = ap (λ k. 256 ^ k) (length-append xs ys) ∙ pow-add 256 (length xs) (length ys) in
    let worth : x * 256 ^ length xs * 256 ^ length ys ≡ x * (256 ^ length xs * 256 ^ length ys) = mul_assoc x (256 ^ length xs) (256 ^ length ys) in
    let spread : (x * 256 ^ length xs + number_high_first xs) * 256 ^ length ys ≡ x * 256 ^ length xs * 256 ^ length ys + number_high_first xs * 256 ^ length ys = add-mul (x * 256 ^ length xs) (number_high_first xs) (256 ^ length ys) in
    rw (ih, power, spread, worth) (sym (add_assoc (x * (256 ^ length xs * 256 ^ length ys)) (number_high_first xs * 256 ^ length ys) (number_high_first ys)))

-- digits of digits: those above k, and those below
pub digits-joined : (j k n : ℕ) → digits_high_first (j + k) n ≡ digits_high_first j (n / 256 ^ k) ++ digits_high_first k n
digits-joined zero k n =
    let none : 0 + k ≡ k = omega arith in
    rw none refl
digits-joined (suc j) k n =
    let count : suc j + k ≡ suc (j + k) = omega arith in
    let above : n / 256 ^ (j + k) ≡ n / 256 ^ k / 256 ^ j = ap (λ w. n / w) (pow-add 256 j k ∙ mul_comm (256 ^ j) (256 ^ k)) ∙ sym (div-div-eq-div-mul n (256 ^ k) (256 ^ j)) in
    rw (count, above, digits-joined j k n) refl
