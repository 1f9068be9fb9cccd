-- The digits of decimals: zeros in front and after, and the digits of a fraction.
use Rattle.std.proofs.Common.{◌≡◌, ℕ, zero, suc, ◌+◌, ◌-◌, ◌*◌, ◌/◌, ◌%◌, ◌^◌, ◌<◌, ◌≤◌, Bool, true, false, eqb, ◌==◌, cond, List, [], ◌∷◌, ◌++◌, length, take, get_or, refl, sym, ap, ◌∙◌, arith, subst, append_assoc, inl, inr, decimal, pos, ℤ, negsuc, ◌≢◌, nat_le, Result, Ok, Err, int_le, neg_ℤ, unsigned_abs, ◌<ℤ◌, FitsSigned, to_z, of_z, int_lt, ◌≤ℤ◌, ◌-ℤ◌, nat_abs, nat_lt}
use Rattle.std.proofs.lemmas.List.{take_more}
use Rattle.std.proofs.lemmas.Nat.{div-add-mod'}
use Rattle.std.proofs.Math.Nat.{one-le-pow, pow-le-pow_right, mul-le-mul, mod-eq_of_lt, div-le_self}
use Rattle.std.specs.Int.{w128}
use mir.Syntax.{Width}
use mir.Val.{SFits}
use lib.Signed.{quot_z}
use Rattle.std.proofs.lemmas.Int.{ints, to_z-of_z}
use Rattle.std.proofs.lemmas.Fmt.{decimal_by_steps_wide, decimal_digit, decimal_is_IsNumeral_wide}
use Rattle.std.proofs.lemmas.Int.Digits.{digits_value-lt}
use Rattle.sbe_types.specs.Numbers.{natural}
use Rattle.std.proofs.lemmas.Bool.{eqb-true, cases_lt}
use Rattle.std.proofs.lemmas.Bool.Decides.{nat_tests, Decides-eqb}
use Rattle.std.specs.Char.{is_ascii_digit}
use Rattle.std.specs.Str.{all_ascii_digits}
use Rattle.fix_values.specs.declared.rule.V.{V}
use Rattle.fix_values.specs.declared.rule.V.TheVariants.{Range, Inexact}
use Rattle.fix_values.specs.declared.rule.Dec.{Dec}
use Rattle.fix_values.specs.Numerals.{sign, signed, is_below_zero}
use Rattle.fix_values.specs.Decimals.{without_leading, without_trailing, kept_before, fraction_of, digits_at, pointed, digits_counted, parts_shown, parts_text, shown_text, Parts, decimal_text, dec, shown_parts, whole_of, places, are_digits, narrowed, widened, mantissa_under}
use Rattle.fix_values.specs.Values.{Leaves}
use Rattle.fix_values.proofs.NumeralLemmas.{both, together, false≢true, not_true, leb-true}

-- one digit more at the end
kept_snoc : (x d : ℕ) (xs : List ℕ) → kept_before x (xs ++ d ∷ []) ≡ x ∷ (xs ++ d ∷ [])
kept_snoc x d [] = refl
kept_snoc x d (y ∷ ys) = refl

trailing_zero : (xs : List ℕ) (d : ℕ) → eqb d 48 ≡ true → without_trailing (xs ++ d ∷ []) ≡ without_trailing xs
trailing_zero [] d h = rw h
trailing_zero (x ∷ xs) d h = ap (kept_before x) (trailing_zero xs d h)

trailing_kept : (xs : List ℕ) (d : ℕ) → eqb d 48 ≡ false → without_trailing (xs ++ d ∷ []) ≡ xs ++ d ∷ []
trailing_kept [] d h = rw h
trailing_kept (x ∷ xs) d h = ap (kept_before x) (trailing_kept xs d h) ∙ kept_snoc x d xs

last_of : (ds : List ℕ) (n : ℕ) → 0 < n → n ≤ length ds → take n ds ≡ take (n - 1) ds ++ get_or ds (n - 1) 0 ∷ []
last_of ds n some within =
    let back : n - 1 + 1 ≡ n = omega arith in
    subst (λ k. take k ds ≡ take (n - 1) ds ++ get_or ds (n - 1) 0 ∷ []) back (take_more ds (n - 1) 0 (omega arith))

-- a zero at the end is dropped
pub zero_dropped : (ds : List ℕ) (n : ℕ) → 0 < n → n ≤ length ds → get_or ds (n - 1) 0 ≡ 48 → without_trailing (take (n - 1) ds) ≡ without_trailing (take n ds)
zero_dropped ds n some within is =
    sym (ap without_trailing (last_of ds n some within) ∙ trailing_zero (take (n - 1) ds) (get_or ds (n - 1) 0) ((Decides-eqb (get_or ds (n - 1) 0) 48).1 is))

-- another digit at the end is kept, and so are all before it
pub digit_kept : (ds : List ℕ) (n : ℕ) → 0 < n → n ≤ length ds → get_or ds (n - 1) 0 ≢ 48 → take n ds ≡ without_trailing (take n ds)
digit_kept ds n some within other =
    let split = last_of ds n some within in
    let last : eqb (get_or ds (n - 1) 0) 48 ≡ false = not_true (eqb (get_or ds (n - 1) 0) 48) (λ h. other (eqb-true (get_or ds (n - 1) 0) 48 h)) in
    split ∙ sym (ap without_trailing split ∙ trailing_kept (take (n - 1) ds) (get_or ds (n - 1) 0) last)

pub none_kept : (ds : List ℕ) (n : ℕ) → n ≤ 0 → take n ds ≡ without_trailing (take n ds)
none_kept ds zero h = refl
none_kept ds (suc n) h = absurd (omega arith)

nonzero : (n : ℕ) → 0 < n → eqb n 0 ≡ false
nonzero n h = grind (arith, nat_tests)

-- the digits of a fraction, one more at the front
pub fraction_on : (k r : ℕ) → 0 < k → 0 < r → fraction_of k r ≡ (48 + r / 10 ^ (k - 1)) ∷ fraction_of (k - 1) (r % 10 ^ (k - 1))
fraction_on zero r some left = absurd (omega arith)
fraction_on (suc k) zero some left = absurd (omega arith)
fraction_on (suc k) (suc r) some left =
    let back : suc k - 1 ≡ k = omega arith in
    rw (back, nonzero (suc r) left)

pub fraction_done : (k r : ℕ) → r ≡ 0 → fraction_of k r ≡ []
fraction_done zero r h = refl
fraction_done (suc k) r h = rw h

pub some_left : (k r : ℕ) → 0 < r → r < 10 ^ k → 0 < k
some_left zero r some small = absurd (omega arith)
some_left (suc k) r some small = omega arith

pub ten_pos : (k : ℕ) → 0 < 10 ^ k
ten_pos k = one-le-pow k 10 (omega arith)

pub ten_next : (k : ℕ) → 10 ^ suc k ≡ 10 * 10 ^ k
ten_next k = grind arith

pub fraction_text : (out more : List ℕ) (k r p : ℕ) → 0 < r → r < 10 ^ k → p ≡ 10 ^ (k - 1) → more ≡ out ++ (48 + r / p) ∷ [] →
    more ++ fraction_of (k - 1) (r % p) ≡ out ++ fraction_of k r
fraction_text out more k r p some small power text =
    let on = fraction_on k r (some_left k r some small) some in
    rw (text, power, on, append_assoc)

pub fraction_count : (k r p : ℕ) → 0 < r → r < 10 ^ k → p ≡ 10 ^ (k - 1) → length (fraction_of k r) ≡ 1 + length (fraction_of (k - 1) (r % p))
fraction_count k r p some small power =
    let on = fraction_on k r (some_left k r some small) some in
    rw (power, on) (omega arith)

pub rest_small : (k r p : ℕ) → p ≡ 10 ^ k → r % p < 10 ^ k
rest_small k r p power = rw power (omega (arith, ten_pos k))

-- a number's text begins with no zero, unless the number is 0
abbrev HasLead : ℕ → List ℕ → Type 0
HasLead n ds = 0 < n → (0 < length ds) × (48 < get_or ds 0 0)

lead_kept : (ds : List ℕ) (x : ℕ) → (0 < length ds) × (48 < get_or ds 0 0) → (0 < length (ds ++ x ∷ [])) × (48 < get_or (ds ++ x ∷ []) 0 0)
lead_kept [] x h = absurd (omega (arith, h.0))
lead_kept (d ∷ ds) x h = (omega arith, h.1)

has_lead : (n : ℕ) → n < 10 ^ 64 → HasLead n (decimal n)
has_lead n h =
    decimal_by_steps_wide HasLead (λ m small some. (omega arith, omega (arith, some)))
    (λ m ds ten lead some. lead_kept ds (48 + m % 10) (lead (omega (arith, ten)))) n h

no_zero : (d : ℕ) → 48 < d → eqb d 48 ≡ false
no_zero d h = grind (arith, nat_tests)

without_leading_is : (ds : List ℕ) → (0 < length ds) × (48 < get_or ds 0 0) → without_leading ds ≡ ds
without_leading_is [] h = absurd (omega (arith, h.0))
without_leading_is (d ∷ ds) h = rw (no_zero d h.1)

pub whole_kept : (n : ℕ) → 0 < n → n < 10 ^ 64 → without_leading (decimal n) ≡ decimal n
whole_kept n some small = without_leading_is (decimal n) (has_lead n small some)

pub zero_left_out : (n : ℕ) → n ≡ 0 → without_leading (decimal n) ≡ []
zero_left_out n h = ap (λ m. without_leading (decimal m)) h ∙ ap without_leading (decimal_digit 0 (omega arith))

zeros_dropped : (k : ℕ) → without_trailing (digits_at k 0) ≡ []
zeros_dropped zero = refl
zeros_dropped (suc k) =
    let first : 0 / 10 ^ k ≡ 0 = omega (arith, ten_pos k) in
    let rest : 0 % 10 ^ k ≡ 0 = omega (arith, ten_pos k) in
    rw (first, rest, zeros_dropped k)

kept : (d : ℕ) (fs : List ℕ) → (fs ≡ [] → eqb d 48 ≡ false) → kept_before d fs ≡ d ∷ fs
kept d [] h = rw (h refl)
kept d (f ∷ fs) h = refl

fraction_empty : (k s : ℕ) → s < 10 ^ k → fraction_of k s ≡ [] → s ≡ 0
fraction_empty zero s small h = omega arith
fraction_empty (suc k) zero small h = refl
fraction_empty (suc k) (suc s) small h =
    let on = fraction_on (suc k) (suc s) (omega arith) (omega arith) in
    absurd (cc (on, h))

lead_shown : (r p : ℕ) → 0 < r → 0 < p → r % p ≡ 0 → eqb (48 + r / p) 48 ≡ false
lead_shown r p some pos_p none =
    let whole : r ≡ r / p * p + r % p = sym (div-add-mod' r p) in
    not_true (eqb (48 + r / p) 48) (λ same. let z : r / p ≡ 0 = omega (arith, eqb-true (48 + r / p) 48 same) in absurd (omega (arith, whole, none, ap (λ q. q * p) z)))

-- the digits that are written are those down to the last that isn't zero
pub fraction_is : (k r : ℕ) → r < 10 ^ k → fraction_of k r ≡ without_trailing (digits_at k r)
fraction_is zero r small = refl
fraction_is (suc k) zero small = sym (zeros_dropped (suc k))
fraction_is (suc k) (suc r) small =
    let back : suc k - 1 ≡ k = omega arith in
    let some : 0 < suc r = omega arith in
    let on = fraction_on (suc k) (suc r) (omega arith) some in
    let below : suc r % 10 ^ k < 10 ^ k = rest_small k (suc r) (10 ^ k) refl in
    let later : fraction_of k (suc r % 10 ^ k) ≡ without_trailing (digits_at k (suc r % 10 ^ k)) = fraction_is k (suc r % 10 ^ k) below in
    let lead : fraction_of k (suc r % 10 ^ k) ≡ [] → eqb (48 + suc r / 10 ^ k) 48 ≡ false = λ none. lead_shown (suc r) (10 ^ k) some (ten_pos k) (fraction_empty k (suc r % 10 ^ k) below none) in
    rw (on, back, ← later, kept (48 + suc r / 10 ^ k) (fraction_of k (suc r % 10 ^ k)) lead)

by_digit : (b : Bool) (d : ℕ) → eqb d 48 ≡ b → without_trailing (cond b [] (d ∷ [])) ≡ cond b [] (d ∷ [])
by_digit true d h = refl
by_digit false d h = rw h

kept_again : (d : ℕ) (xs : List ℕ) → without_trailing xs ≡ xs → without_trailing (kept_before d xs) ≡ kept_before d xs
kept_again d [] h = by_digit (eqb d 48) d refl
kept_again d (x ∷ xs) h = ap (kept_before d) h

pub trailing_again : (ds : List ℕ) → without_trailing (without_trailing ds) ≡ without_trailing ds
trailing_again [] = refl
trailing_again (d ∷ ds) = kept_again d (without_trailing ds) (trailing_again ds)

pub over : (n : ℕ) → 38 < n → nat_le n 38 ≡ false
over n h = grind (arith, nat_tests)

pub within : (n : ℕ) → n ≤ 38 → nat_le n 38 ≡ true
within n h = grind (arith, nat_tests)

-- what was written and counted is what is shown
pub shown_counted : (negative : Bool) (whole places rest count : ℕ) → rest < 10 ^ places → count ≡ length (without_leading (decimal whole)) + length (fraction_of places rest) →
    count ≡ digits_counted (parts_shown negative whole places rest)
shown_counted negative whole places rest count small h =
    let fraction : length (fraction_of places rest) ≡ length (without_trailing (without_trailing (digits_at places rest))) =
    ap length (fraction_is places rest small ∙ sym (trailing_again (digits_at places rest))) in
    h ∙ ap (λ n. length (without_leading (decimal whole)) + n) fraction

pub shown_over : (parts : Parts) (count : ℕ) (answer : Result Unit V) (out : List ℕ) → count ≡ digits_counted parts → 38 < count → answer ≡ Err Range → out ≡ [] → Leaves answer out (shown_text parts)
shown_over parts count answer out h many is empty = rw (over (digits_counted parts) (omega (arith, h, many))) (is, empty)

pub shown_written : (parts : Parts) (count : ℕ) (answer : Result Unit V) (out : List ℕ) → count ≡ digits_counted parts → count ≤ 38 → answer ≡ Ok tt → out ≡ parts_text parts → Leaves answer out (shown_text parts)
shown_written parts count answer out h few is text = rw (within (digits_counted parts) (omega (arith, h, few))) (is, text)

pub text_written : (negative : Bool) (whole places rest : ℕ) (start signed wholed out : List ℕ) → rest < 10 ^ places → start ≡ [] → signed ≡ start ++ sign negative → wholed ≡ signed ++ decimal whole → out ≡ wholed ++ pointed (fraction_of places rest) →
    out ≡ parts_text (parts_shown negative whole places rest)
text_written negative whole places rest start signed wholed out small empty first second third =
    rw (third, second, first, empty, fraction_is places rest small) (append_assoc (sign negative) (decimal whole) (pointed (without_trailing (digits_at places rest))))

length_kept_by : (b : Bool) (d : ℕ) (ys : List ℕ) → length (cond b [] (d ∷ [])) ≤ suc (length ys)
length_kept_by true d ys = omega arith
length_kept_by false d ys = omega arith

length_kept : (d : ℕ) (xs ys : List ℕ) → length xs ≤ length ys → length (kept_before d xs) ≤ suc (length ys)
length_kept d (x ∷ xs) ys h = omega (arith, h)
length_kept d [] ys h = length_kept_by (eqb d 48) d ys

pub length_trailing : (ds : List ℕ) → length (without_trailing ds) ≤ length ds
length_trailing [] = omega arith
length_trailing (d ∷ ds) = length_kept d (without_trailing ds) ds (length_trailing ds)

length_leading_by : (b : Bool) (d : ℕ) (ds rest : List ℕ) → length rest ≤ length ds → length (cond b rest (d ∷ ds)) ≤ suc (length ds)
length_leading_by true d ds rest h = omega (arith, h)
length_leading_by false d ds rest h = omega arith

pub length_leading : (ds : List ℕ) → length (without_leading ds) ≤ length ds
length_leading [] = omega arith
length_leading (d ∷ ds) = length_leading_by (eqb d 48) d ds (without_leading ds) (length_leading ds)

digits_kept_by : (b : Bool) (d : ℕ) → is_ascii_digit d ≡ true → all_ascii_digits (cond b [] (d ∷ [])) ≡ true
digits_kept_by true d h = refl
digits_kept_by false d h = together (is_ascii_digit d) true h refl

digits_kept : (d : ℕ) (xs : List ℕ) → is_ascii_digit d ≡ true → all_ascii_digits xs ≡ true → all_ascii_digits (kept_before d xs) ≡ true
digits_kept d (x ∷ xs) h g = together (is_ascii_digit d) _ h g
digits_kept d [] h g = digits_kept_by (eqb d 48) d h

pub digits_trailing : (ds : List ℕ) → all_ascii_digits ds ≡ true → all_ascii_digits (without_trailing ds) ≡ true
digits_trailing [] h = refl
digits_trailing (d ∷ ds) h =
    let all = both (is_ascii_digit d) (all_ascii_digits ds) h in
    digits_kept d (without_trailing ds) all.0 (digits_trailing ds all.1)

digits_leading_by : (b : Bool) (d : ℕ) (ds rest : List ℕ) → all_ascii_digits (d ∷ ds) ≡ true → all_ascii_digits rest ≡ true → all_ascii_digits (cond b rest (d ∷ ds)) ≡ true
digits_leading_by true d ds rest h g = g
digits_leading_by false d ds rest h g = h

pub digits_leading : (ds : List ℕ) → all_ascii_digits ds ≡ true → all_ascii_digits (without_leading ds) ≡ true
digits_leading [] h = refl
digits_leading (d ∷ ds) h = digits_leading_by (eqb d 48) d ds (without_leading ds) h (digits_leading ds (both (is_ascii_digit d) (all_ascii_digits ds) h).1)

-- a decimal's text by its parts
pub text_at : (m e : ℤ) → int_le (neg_ℤ (pos 18)) e ≡ true → int_le e (pos 18) ≡ true → decimal_text (dec m e) ≡ shown_text (shown_parts (dec m e))
text_at m e low high = rw (low, high)

pub text_below : (m e : ℤ) (negative : Bool) (size power places : ℕ) → int_le (neg_ℤ (pos 18)) e ≡ true → int_le e (pos 18) ≡ true → e <ℤ pos 0 → negative ≡ is_below_zero m →
    size ≡ unsigned_abs m → places ≡ unsigned_abs e → power ≡ 10 ^ places → shown_text (parts_shown negative (size / power) places (size % power)) ≡ decimal_text (dec m e)
text_below m (pos k) negative size power places low high below s is at ten = absurd (omega (arith, ints, below))
text_below m (negsuc k) negative size power places low high below s is at ten =
    let one : unsigned_abs m * 10 ^ 0 ≡ unsigned_abs m = omega arith in
    sym (text_at m (negsuc k) low high ∙ rw (one, s, ten, at, is))

refl_lt : (n : ℕ) → int_lt (pos n) (pos 0) ≡ false
refl_lt n = grind (arith, ints, nat_tests)

below_is : (m : ℤ) → int_lt m (pos 0) ≡ is_below_zero m
below_is (pos n) = refl_lt n
below_is (negsuc n) = refl

pub below_zero_is : (m : ℤ) → FitsSigned w128 m → int_lt (to_z w128 (of_z w128 m)) (pos 0) ≡ is_below_zero m
below_zero_is m fits = ap (λ z. int_lt z (pos 0)) (to_z-of_z w128 m fits) ∙ below_is m

longer : (k : ℕ) → 10 ^ 38 < 10 ^ k → 38 < k
longer k h =
    elim (cases_lt 38 k) [
      | inl more ↦ more
      | inr less ↦ let powers : 10 ^ k ≤ 10 ^ 38 = pow-le-pow_right {n = 10} (omega arith) less in absurd (omega (arith, powers, h))
    ]

many_digits : (n : ℕ) → 10 ^ 38 ≤ n → n < 10 ^ 64 → 38 < length (without_leading (decimal n))
many_digits n large small =
    let numeral = decimal_is_IsNumeral_wide n small in
    let bound = digits_value-lt 10 (decimal n) numeral.0.1 in
    let more : 38 < length (decimal n) = longer (length (decimal n)) (omega (arith, bound, numeral.1, large)) in
    omega (arith, more, ap length (whole_kept n (omega (arith, large)) small))

at_least : (x n most : ℕ) → ¬ (x < most) → x ≡ n → most ≤ n
at_least x n most h e = elim (cases_lt x most) [ inl less ↦ absurd (h less) | inr more ↦ omega (arith, more, e) ]

abs_bound : (m : ℤ) → FitsSigned w128 m → unsigned_abs m ≤ 2 ^ 127
abs_bound (pos n) fits = let f = fits.sfits in omega (arith, f)
abs_bound (negsuc n) fits = let f = fits.sfits in omega (arith, f)

size_bound : (a k : ℕ) → a ≤ 2 ^ 127 → k ≤ 18 → a * 10 ^ k < 10 ^ 64
size_bound a k small few =
    let power : 10 ^ k ≤ 10 ^ 18 = pow-le-pow_right {n = 10} (omega arith) few in
    let product : a * 10 ^ k ≤ 2 ^ 127 * 10 ^ 18 = mul-le-mul small power in
    omega (arith, product)

pub no_places : (k : ℕ) → natural (neg_ℤ (pos k)) ≡ 0
no_places zero = refl
no_places (suc k) = refl

pub undivided : (n k : ℕ) → k ≡ 0 → n / 10 ^ k ≡ n
undivided n k none = let one : n / 10 ^ 0 ≡ n = omega arith in ap (λ j. n / 10 ^ j) none ∙ one

add_more : (a b : ℕ) → 38 < a → 38 < a + b
add_more a b h = omega (arith, h)

pub text_over : (m e : ℤ) (size power : ℕ) → FitsSigned w128 m → int_le (neg_ℤ (pos 18)) e ≡ true → int_le e (pos 18) ≡ true → int_le (pos 0) e ≡ true → size ≡ unsigned_abs m → power ≡ 10 ^ natural e →
    ¬ (size * power < 2 ^ 128) → decimal_text (dec m e) ≡ Err Range
text_over m (negsuc k) size power fits low high above is ten large = absurd (false≢true above)
text_over m (pos k) size power fits low high above is ten large =
    let d = dec m (pos k) in
    let n = unsigned_abs m * 10 ^ k in
    let same : size * power ≡ n = rw (is, ten) in
    let great : 2 ^ 128 ≤ n = at_least (size * power) n (2 ^ 128) large same in
    let small : n < 10 ^ 64 = size_bound (unsigned_abs m) k (abs_bound m fits) (leb-true k 18 high) in
    let whole : whole_of d ≡ n = undivided n (places d) (no_places k) in
    let digits : 38 < length (without_leading (decimal (whole_of d))) = subst (λ w. 38 < length (without_leading (decimal w))) (sym whole) (many_digits n (omega (arith, great)) small) in
    let count : 38 < digits_counted (shown_parts d) = add_more (length (without_leading (decimal (whole_of d)))) _ digits in
    text_at m (pos k) low high ∙ rw (over (digits_counted (shown_parts d)) count)

pub abs_same : (w : Width) (m : ℤ) → SFits w m → nat_abs (to_z w (of_z w m)) ≡ unsigned_abs m
abs_same w m fits = ap nat_abs (to_z-of_z w m fits)

-- parts that are digits
pub parts_digits : (whole fraction : List ℕ) → are_digits whole fraction ≡ true → (all_ascii_digits whole ≡ true) × (all_ascii_digits fraction ≡ true)
parts_digits whole fraction h = both (all_ascii_digits whole) (all_ascii_digits fraction) (both (nat_lt 0 (length whole + length fraction)) _ h).1

-- powers of ten that an i128 holds
pub ten_small : (k : ℕ) → k ≤ 38 → 10 ^ k ≤ 10 ^ 38
ten_small k few = pow-le-pow_right {n = 10} (omega arith) few

ten_large : (k : ℕ) → 38 < k → 10 ^ 39 ≤ 10 ^ k
ten_large k many = let far : 39 ≤ k = omega (arith, many) in pow-le-pow_right {n = 10} (omega arith) far

abs_some : (n : ℤ) → ¬ (n ≡ pos 0) → 0 < unsigned_abs n
abs_some (pos zero) other = absurd (other refl)
abs_some (pos (suc n)) other = omega arith
abs_some (negsuc n) other = omega arith

rest_is : (a p : ℕ) → a < p → a % p ≡ a
rest_is a p less = mod-eq_of_lt less

not_zero : (n : ℕ) → 0 < n → (n == 0) ≡ false
not_zero n some = nonzero n some

-- too many places for any number but zero
pub far_narrowed : (n : ℤ) (k : ℕ) → FitsSigned w128 n → ¬ (n ≡ pos 0) → 38 < k → Err Inexact ≡ narrowed n k
far_narrowed n k fits other many =
    let small = abs_bound n fits in
    let large = ten_large k many in
    let whole : unsigned_abs n % 10 ^ k ≡ unsigned_abs n = rest_is (unsigned_abs n) (10 ^ k) (omega (arith, small, large)) in
    rw (whole, not_zero (unsigned_abs n) (abs_some n other))

too_great : (b : Bool) (size : ℕ) → 10 ^ 39 ≤ size → FitsSigned w128 (signed b size) → ⊥
too_great true zero large fits = absurd (omega arith)
too_great true (suc n) large fits = let f = fits.sfits in omega (arith, f)
too_great false size large fits = let f = fits.sfits in omega (arith, f)

pub far_widened : (n : ℤ) (k : ℕ) → ¬ (n ≡ pos 0) → 38 < k → FitsSigned w128 (widened n k) → ⊥
far_widened n k other many fits =
    let large = ten_large k many in
    let some = abs_some n other in
    let product : 1 * 10 ^ 39 ≤ unsigned_abs n * 10 ^ k = mul-le-mul some large in
    too_great (is_below_zero n) (unsigned_abs n * 10 ^ k) (omega (arith, product)) fits

-- a quotient by a power of ten fits
negated_fits : (n : ℕ) → n ≤ 2 ^ 127 → SFits w128 (neg_ℤ (pos n))
negated_fits zero h = record { sfits = omega arith }
negated_fits (suc n) h = record { sfits = omega (arith, h) }

quotient_fits : (n : ℤ) (q : ℕ) → SFits w128 n → 0 < q → SFits w128 (quot_z n (pos q))
quotient_fits (pos a) q fits some =
    let f = fits.sfits in
    record { sfits = omega (arith, f, div-le_self a q) }
quotient_fits (negsuc a) q fits some =
    let f = fits.sfits in
    negated_fits (suc a / q) (omega (arith, f, div-le_self (suc a) q))

pub divides : (n p : ℤ) (k : ℕ) → SFits w128 n → SFits w128 p → p ≡ pos (10 ^ k) → (0 < of_z w128 p) × SFits w128 (quot_z (to_z w128 (of_z w128 n)) (to_z w128 (of_z w128 p)))
divides n p k fn fp ten =
    let whole : of_z w128 p ≡ 10 ^ k = ap (of_z w128) ten in (
      omega (arith, whole, ten_pos k),
      rw (to_z-of_z w128 n fn, to_z-of_z w128 p fp, ten) (quotient_fits n (10 ^ k) fn (ten_pos k)),
    )

-- the shift from one exponent to another
abs_up : (z : ℤ) → pos 0 ≤ℤ z → unsigned_abs z ≡ natural z
abs_up (pos n) h = refl
abs_up (negsuc n) h = absurd (omega (arith, ints, h))

pub up_from : (a b : ℤ) → int_le b a ≡ true → pos 0 ≤ℤ (a -ℤ b)
up_from a b h = grind (arith, ints)

pub under_wide : (d : Dec) (e : ℤ) (places : ℕ) → int_le e d.exponent ≡ true → places ≡ unsigned_abs (d.exponent -ℤ e) → mantissa_under d e ≡ Ok (widened d.mantissa places)
under_wide d e places low is = rw (low, ← abs_up (d.exponent -ℤ e) (up_from d.exponent e low), is)

below_le : (a b : ℤ) → int_le b a ≡ false → int_le a b ≡ true
below_le a b h = grind (arith, ints)

pub under_narrow : (d : Dec) (e : ℤ) (places : ℕ) → int_le e d.exponent ≡ false → places ≡ unsigned_abs (e -ℤ d.exponent) → mantissa_under d e ≡ narrowed d.mantissa places
under_narrow d e places high is = rw (high, ← abs_up (e -ℤ d.exponent) (up_from e d.exponent (below_le d.exponent e high)), is)

-- a decimal whose exponent is shown has a whole part of at most fifty-seven digits
whole_small_by : (m e : ℤ) → FitsSigned w128 m → natural e ≤ 18 → whole_of (dec m e) < 10 ^ 64
whole_small_by m e fits few =
    let size = size_bound (unsigned_abs m) (natural e) (abs_bound m fits) few in
    omega (arith, size, div-le_self (unsigned_abs m * 10 ^ natural e) (10 ^ natural (neg_ℤ e)))

few_zeros : (e : ℤ) → int_le e (pos 18) ≡ true → natural e ≤ 18
few_zeros (pos k) h = leb-true k 18 h
few_zeros (negsuc k) h = omega arith

pub whole_small : (m e : ℤ) → FitsSigned w128 m → int_le e (pos 18) ≡ true → whole_of (dec m e) < 10 ^ 64
whole_small m e fits high = whole_small_by m e fits (few_zeros e high)
