-- The texts of decimals with a mantissa of at most 64 bits: their digits, the last one first.
use Rattle.std.proofs.Common.{◌≡◌, ◌≢◌, ◌<◌, ◌≤◌, ℕ, zero, suc, ◌+◌, ◌-◌, ◌*◌, ◌/◌, ◌%◌, ◌^◌, Bool, true, false, eqb, List, [], ◌∷◌, ◌++◌, length, drop, slice_set, decimal, ℤ, pos, negsuc, Ok, int_le, neg_ℤ, unsigned_abs, refl, sym, ap, ◌∙◌, arith}
use Rattle.std.proofs.Math.Arith.{mod-mul}
use Rattle.std.proofs.Math.Nat.{div-div-eq-div-mul, div-le_self}
use Rattle.std.proofs.lemmas.List.{drop-set}
use Rattle.std.proofs.lemmas.Nat.{div-mul-add, mod-mul-add}
use Rattle.std.proofs.lemmas.Bool.{eqb-true}
use Rattle.std.proofs.lemmas.Fmt.{length-decimal-le}
use Rattle.fix_values.specs.Numerals.{is_below_zero, sign}
use Rattle.fix_values.specs.Decimals.{without_trailing, kept_before, digits_at, digits_counted, parts_shown, parts_text, pointed, shown_text, decimal_text, dec}
use Rattle.fix_values.proofs.NumeralLemmas.{leb-true, not_true}
use Rattle.fix_values.proofs.DecimalLemmas.{length_leading, length_trailing, ten_next, ten_pos, rest_small, text_at, within}
use Rattle.value_texts.specs.declared.small.SmallDecimal.{SmallDecimal}
use Rattle.value_texts.specs.Small.{small_parts}

-- ---- digits

-- the first of some last digits, and those after it
pub record FirstDigit (k n : ℕ) : Type 0 where
  pub digit : n % 10 ^ suc k / 10 ^ k ≡ n / 10 ^ k % 10
  pub rest : n % 10 ^ suc k % 10 ^ k ≡ n % 10 ^ k

first_digit : (k n : ℕ) → FirstDigit k n
first_digit k n =
    let c = 10 ^ k in
    let split : n % 10 ^ suc k ≡ (n / c % 10) * c + n % c = ap (λ p. n % p) (ten_next k) ∙ mod-mul n {m = 10} {c = c} (omega arith) (ten_pos k) in
    let small = rest_small k n c refl in
    record {
      digit = ap (λ x. x / c) split ∙ div-mul-add (n / c % 10) c (n % c) small;
      rest = ap (λ x. x % c) split ∙ mod-mul-add (n / c % 10) c (n % c) small;
    }

-- one more digit at the front
pub digit_before : (k n : ℕ) → digits_at (suc k) (n % 10 ^ suc k) ≡ (48 + n / 10 ^ k % 10) ∷ digits_at k (n % 10 ^ k)
digit_before k n = let first = first_digit k n in rw (first.digit, first.rest)

pub tenth_first : (k n : ℕ) → n / 10 / 10 ^ k ≡ n / 10 ^ suc k
tenth_first k n = div-div-eq-div-mul n 10 (10 ^ k) ∙ ap (λ p. n / p) (sym (ten_next k))

pub tenth_after : (k n : ℕ) → n / 10 ^ k / 10 ≡ n / 10 ^ (k + 1)
tenth_after k n =
    let turned : 10 ^ k * 10 ≡ 10 * 10 ^ k = omega arith in
    let next : suc k ≡ k + 1 = omega arith in
    div-div-eq-div-mul n (10 ^ k) 10 ∙ ap (λ p. n / p) (turned ∙ (sym (ten_next k) ∙ ap (λ j. 10 ^ j) next))

-- the last digit
last_digit : (k n : ℕ) → digits_at (suc k) (n % 10 ^ suc k) ≡ digits_at k (n / 10 % 10 ^ k) ++ (48 + n % 10) ∷ []
last_digit zero n =
    let one : n / 10 ^ 0 ≡ n = omega arith in
    digit_before zero n ∙ ap (λ m. (48 + m % 10) ∷ []) one
last_digit (suc k) n =
    digit_before (suc k) n
    ∙ (ap (λ ds. (48 + n / 10 ^ suc k % 10) ∷ ds) (last_digit k n)
    ∙ (ap (λ m. (48 + m % 10) ∷ (digits_at k (n / 10 % 10 ^ k) ++ (48 + n % 10) ∷ [])) (sym (tenth_first k n))
    ∙ sym (ap (λ ds. ds ++ (48 + n % 10) ∷ []) (digit_before k (n / 10)))))

-- ---- zeros at the end

trailing_zero : (xs : List ℕ) → without_trailing (xs ++ 48 ∷ []) ≡ without_trailing xs
trailing_zero [] = refl
trailing_zero (x ∷ xs) = ap (kept_before x) (trailing_zero xs)

kept_snoc : (x d : ℕ) (xs : List ℕ) → kept_before x (xs ++ d ∷ []) ≡ x ∷ (xs ++ d ∷ [])
kept_snoc x d [] = refl
kept_snoc x d (y ∷ ys) = refl

trailing_kept : (xs : List ℕ) (d : ℕ) → eqb d 48 ≡ false → without_trailing (xs ++ d ∷ []) ≡ xs ++ d ∷ []
trailing_kept [] d h = rw h
trailing_kept (x ∷ xs) d h = ap (kept_before x) (trailing_kept xs d h) ∙ kept_snoc x d xs

-- a zero at the end is left out
pub zero_last : (n k : ℕ) → 0 < k → n % 10 ≡ 0 → without_trailing (digits_at (k - 1) (n / 10 % 10 ^ (k - 1))) ≡ without_trailing (digits_at k (n % 10 ^ k))
zero_last n zero some none = absurd (omega (arith, some))
zero_last n (suc k) some none =
    let back : suc k - 1 ≡ k = omega arith in
    rw back
    (sym (ap without_trailing (last_digit k n ∙ ap (λ d. digits_at k (n / 10 % 10 ^ k) ++ (48 + d) ∷ []) none) ∙ trailing_zero (digits_at k (n / 10 % 10 ^ k))))

pub whole_before : (n k : ℕ) → 0 < k → n / 10 / 10 ^ (k - 1) ≡ n / 10 ^ k
whole_before n zero some = absurd (omega (arith, some))
whole_before n (suc k) some =
    let back : suc k - 1 ≡ k = omega arith in
    rw back (tenth_first k n)

-- another digit at the end is kept, and so are all before it
pub other_last : (n k : ℕ) → 0 < k → n % 10 ≢ 0 → digits_at k (n % 10 ^ k) ≡ without_trailing (digits_at k (n % 10 ^ k))
other_last n zero some other = refl
other_last n (suc k) some other =
    let last : eqb (48 + n % 10) 48 ≡ false = not_true (eqb (48 + n % 10) 48) (λ h. other (omega (arith, eqb-true (48 + n % 10) 48 h))) in
    last_digit k n ∙ sym (ap without_trailing (last_digit k n) ∙ trailing_kept (digits_at k (n / 10 % 10 ^ k)) (48 + n % 10) last)

-- ---- bytes that are written from the last to the first

pub byte_before : (room : List ℕ) (at b : ℕ) → 0 < at → at ≤ length room → drop (at - 1) (slice_set room (at - 1) b) ≡ b ∷ drop at room
byte_before room at b some within =
    let back : at - 1 + 1 ≡ at = omega arith in
    drop-set room (at - 1) b (omega (arith, some, within)) ∙ ap (λ i. b ∷ drop i room) back

pub place_written : (room : List ℕ) (at k n w : ℕ) → 0 < at → at ≤ length room → w ≡ n / 10 ^ k → drop at room ≡ digits_at k (n % 10 ^ k)
    → drop (at - 1) (slice_set room (at - 1) (48 + w % 10)) ≡ digits_at (k + 1) (n % 10 ^ (k + 1))
place_written room at k n w some within is text =
    let next : suc k ≡ k + 1 = omega arith in
    byte_before room at (48 + w % 10) some within
    ∙ (ap (λ ds. (48 + w % 10) ∷ ds) text
    ∙ (ap (λ v. (48 + v % 10) ∷ digits_at k (n % 10 ^ k)) is
    ∙ (sym (digit_before k n) ∙ ap (λ j. digits_at j (n % 10 ^ j)) next)))

pub point_written : (room : List ℕ) (at k r : ℕ) → 0 < k → 0 < at → at ≤ length room → drop at room ≡ digits_at k r → drop (at - 1) (slice_set room (at - 1) 46) ≡ pointed (digits_at k r)
point_written room at zero r some left within text = absurd (omega (arith, some))
point_written room at (suc k) r some left within text = byte_before room at 46 left within ∙ ap (λ ds. 46 ∷ ds) text

pub none_pointed : (k n : ℕ) → k ≡ 0 → [] ≡ pointed (digits_at k (n % 10 ^ k))
none_pointed zero n none = refl
none_pointed (suc k) n none = absurd (omega (arith, none))

-- ---- the whole text

length_digits : (k r : ℕ) → length (digits_at k r) ≡ k
length_digits zero r = refl
length_digits (suc k) r = ap suc (length_digits k (r % 10 ^ k))

few_digits : (negative : Bool) (whole places rest : ℕ) → length (decimal whole) ≤ 20 → places ≤ 18 → digits_counted (parts_shown negative whole places rest) ≤ 38
few_digits negative whole places rest short few =
    let ds = digits_at places rest in
    omega (arith, short, few, length_leading (decimal whole), length_trailing (without_trailing ds), length_trailing ds, length_digits places rest)

short_whole : (n places : ℕ) → n < 2 ^ 64 → length (decimal (n / 10 ^ places)) ≤ 20
short_whole n places small =
    let less = div-le_self n (10 ^ places) in
    length-decimal-le 20 (n / 10 ^ places) (omega arith) (omega (arith, less, small)) (omega (arith, less, small))

few_shown : (d : SmallDecimal) → d.size < 2 ^ 64 → d.places ≤ 18 → shown_text (small_parts d) ≡ Ok (parts_text (small_parts d))
few_shown d small few =
    rw (within (digits_counted (small_parts d)) (few_digits d.negative (d.size / 10 ^ d.places) d.places (d.size % 10 ^ d.places) (short_whole d.size d.places small) few))

-- a decimal whose exponent isn't above zero
text_not_above : (m e : ℤ) (d : SmallDecimal) → int_le (neg_ℤ (pos 18)) e ≡ true → int_le e (pos 18) ≡ true → int_le e (pos 0) ≡ true
    → d.negative ≡ is_below_zero m → d.size ≡ unsigned_abs m → d.places ≡ unsigned_abs e → decimal_text (dec m e) ≡ shown_text (small_parts d)
text_not_above m (pos zero) d low high none s is at =
    let one : unsigned_abs m * 10 ^ 0 ≡ unsigned_abs m = omega arith in
    text_at m (pos 0) low high ∙ rw (one, s, at, is)
text_not_above m (pos (suc k)) d low high none s is at = absurd (omega (arith, leb-true (suc k) 0 none))
text_not_above m (negsuc k) d low high none s is at =
    let one : unsigned_abs m * 10 ^ 0 ≡ unsigned_abs m = omega arith in
    text_at m (negsuc k) low high ∙ rw (one, s, at, is)

pub small_text : (m e : ℤ) (d : SmallDecimal) → int_le (neg_ℤ (pos 18)) e ≡ true → int_le e (pos 18) ≡ true → int_le e (pos 0) ≡ true
    → d.negative ≡ is_below_zero m → d.size ≡ unsigned_abs m → d.places ≡ unsigned_abs e → d.size < 2 ^ 64 → d.places ≤ 18
    → decimal_text (dec m e) ≡ Ok (parts_text (small_parts d))
small_text m e d low high none s is at small few = text_not_above m e d low high none s is at ∙ few_shown d small few

-- a sign, a whole part and a fraction, one after the other
pub parts_written : (d : SmallDecimal) (size places : ℕ) (text wholed pointed_at : List ℕ)
    → size / 10 ^ places ≡ d.size / 10 ^ d.places
    → digits_at places (size % 10 ^ places) ≡ without_trailing (digits_at d.places (d.size % 10 ^ d.places))
    → text ≡ sign d.negative ++ wholed → wholed ≡ decimal (size / 10 ^ places) ++ pointed_at → pointed_at ≡ pointed (digits_at places (size % 10 ^ places))
    → text ≡ parts_text (small_parts d)
parts_written d size places text wholed pointed_at whole fraction signed is points =
    signed ∙ ap (λ w. sign d.negative ++ w)
    (is ∙ (ap (λ n. decimal n ++ pointed_at) whole ∙ ap (λ p. decimal (d.size / 10 ^ d.places) ++ p) (points ∙ ap pointed fraction)))
