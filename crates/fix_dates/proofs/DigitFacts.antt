-- Numbers in a fixed number of decimal places.
use Rattle.std.proofs.Common.{◌≡◌, ℕ, zero, suc, ◌+◌, ◌-◌, ◌*◌, ◌/◌, ◌%◌, ◌^◌, ◌<◌, ◌≤◌, true, nat_le, Some, List, [], ◌∷◌, ◌++◌, length, refl, sym, ap, ◌∙◌, arith, length-append, take, drop}
use Rattle.std.proofs.Math.Nat.{div-div-eq-div-mul, pow-succ', pow-suc, one-le-pow, mod-eq_of_lt, lt-div-mul-add}
use Rattle.std.proofs.Math.Arith.{mod-mul}
use Rattle.std.proofs.lemmas.Bool.Decides.{nat_tests}
use Rattle.std.proofs.lemmas.Option.{same_Some}
use Rattle.std.proofs.lemmas.List.{take-append-drop, length-take-le}
use Rattle.fix_dates.specs.Digits.{digits, number_after, number_in}

pub length_digits : (places n : ℕ) → length (digits places n) ≡ places
unfolding digits
length_digits zero n = refl
length_digits (suc places) n = omega (arith, length_digits places (n / 10), length-append {A = ℕ})

-- the digits by their first one
pub first_digit : (places n : ℕ) → digits (suc places) n ≡ (48 + n / 10 ^ places % 10) ∷ digits places n
unfolding digits
first_digit zero n = let whole : n / 10 ^ 0 ≡ n = omega arith in rw whole refl
first_digit (suc places) n =
    let next : n / 10 / 10 ^ places ≡ n / 10 ^ suc places = div-div-eq-div-mul n 10 (10 ^ places) ∙ ap (λ k. n / k) (sym (pow-succ' 10 places)) in
    rw (first_digit places (n / 10), next) refl

-- the last digits of a number are the first of them and the others
rest_digits : (before n places : ℕ) → (before * 10 + n / 10 ^ places % 10) * 10 ^ places + n % 10 ^ places ≡ before * 10 ^ suc places + n % 10 ^ suc places
rest_digits before n places =
    let more = pow-succ' 10 places in
    let some : 0 < 10 ^ places = one-le-pow places 10 (omega arith) in
    let parts = mod-mul n {m = 10} {c = 10 ^ places} (omega arith) some in
    rw (more, parts) (grind arith)

-- what digits are read as, after a number
pub read_digits : (places n before : ℕ) → number_after before (digits places n) ≡ Some (before * 10 ^ places + n % 10 ^ places)
unfolding number_after digits
read_digits zero n before = let e : before ≡ before * 10 ^ 0 + n % 10 ^ 0 = omega arith in ap Some e
read_digits (suc places) n before =
    let d = n / 10 ^ places % 10 in
    let low : nat_le 48 (48 + d) ≡ true = grind (arith, nat_tests) in
    let high : nat_le (48 + d) 57 ≡ true = grind (arith, nat_tests) in
    let back : 48 + d - 48 ≡ d = omega arith in
    rw (first_digit places n, low, high, back) (read_digits places n (before * 10 + d) ∙ ap Some (rest_digits before n places))

-- a digit is read, and then the others
number_after_digit : (x : ℕ) (text : List ℕ) (before n : ℕ) → number_after before (x ∷ text) ≡ Some n → (48 ≤ x) × (x ≤ 57) × (number_after (before * 10 + (x - 48)) text ≡ Some n)
unfolding number_after
number_after_digit x text before n e = grind (arith, nat_tests)

-- a text that is read has the digits of its number, and the number before stands in front of them
pub digits_read : (text : List ℕ) (before n : ℕ) → number_after before text ≡ Some n → (digits (length text) n ≡ text) × (n / 10 ^ length text ≡ before)
unfolding number_after digits
digits_read [] before n e = (refl, let same = same_Some before n e in omega arith)
digits_read (x ∷ text) before n e =
    let rest = number_after_digit x text before n e in
    let others = digits_read text (before * 10 + (x - 48)) n rest.2 in
    let value : n / 10 ^ length text ≡ before * 10 + (x - 48) = others.1 in
    let first : 48 + n / 10 ^ length text % 10 ≡ x = omega (arith, rest.0, rest.1) in
    let shorter : n / 10 ^ suc (length text) ≡ n / 10 ^ length text / 10 = ap (λ k. n / k) (pow-suc 10 (length text)) ∙ sym (div-div-eq-div-mul n (10 ^ length text) 10) in
    (first_digit (length text) n ∙ (ap (λ d. d ∷ digits (length text) n) first ∙ ap (λ xs. x ∷ xs) others.0), omega (arith, rest.0, rest.1))

-- a number that fits its places is read back
pub read_back : (places n : ℕ) → n < 10 ^ places → number_in (digits places n) ≡ Some n
read_back places n fits =
    let whole : n % 10 ^ places ≡ n = mod-eq_of_lt fits in
    let value : 0 * 10 ^ places + n % 10 ^ places ≡ n = omega arith in
    read_digits places n 0 ∙ ap Some value

-- the first bytes of a text, read as a number, are its digits
pub piece_read : (places : ℕ) (text : List ℕ) (n : ℕ) → places ≤ length text → number_in (take places text) ≡ Some n → (digits places n ≡ take places text) × (n < 10 ^ places)
piece_read places text n within e =
    let all = digits_read (take places text) 0 n e in
    let long = length-take-le places text within in
    let some : 0 < 10 ^ places = one-le-pow places 10 (omega arith) in
    let below : n < n / 10 ^ places * 10 ^ places + 10 ^ places = lt-div-mul-add {a = n} {b = 10 ^ places} some in
    let none : n / 10 ^ places ≡ 0 = rw long at all.1 in
    let least : 0 * 10 ^ places ≡ 0 = omega arith in
    (rw long at all.0, omega (arith, rw none at below))

-- a text is what stands first, and then the rest
pub first_and_rest : (places : ℕ) (first text : List ℕ) → first ≡ take places text → first ++ drop places text ≡ text
first_and_rest places first text e = rw e (take-append-drop places text)
