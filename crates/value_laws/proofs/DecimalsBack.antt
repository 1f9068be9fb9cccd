-- A decimal that was shown reads back as the same fraction, in its reduced form.
use Rattle.std.proofs.Common.{◌≡◌, ℕ, zero, suc, ◌+◌, ◌-◌, ◌*◌, ◌/◌, ◌%◌, ◌^◌, ◌<◌, Bool, true, false, ◌&&◌, eqb, cond, List, [], ◌∷◌, ◌++◌, length, refl, sym, ap, ◌∙◌, arith, subst, pos, ℤ, neg_ℤ, int_le, nat_le, nat_lt, unsigned_abs, Result, Ok, Err, if◌then◌else◌, length-append, replicate, FitsSigned}
use Rattle.std.proofs.Math.Nat.{div-lt_iff_lt-mul, mul_assoc, mul-pos}
use Rattle.std.proofs.lemmas.List.{length-replicate}
use Rattle.std.proofs.lemmas.Nat.{pow-add, div-add-mod'}
use Rattle.std.proofs.lemmas.Bool.{eqb-true}
use Rattle.std.proofs.lemmas.Bool.Decides.{nat_tests}
use Rattle.std.specs.Char.{digit_value, is_ascii_digit}
use Rattle.std.specs.Str.{all_ascii_digits}
use Rattle.std.specs.Str.Parse.{digits_value, digits_value_after}
use Rattle.sbe_types.specs.declared.kind.Leaf.{Leaf as LeafOf}
use Rattle.sbe_types.specs.Numbers.{natural}
use Rattle.fix_values.specs.declared.rule.V.{V}
use Rattle.fix_values.specs.declared.rule.V.TheVariants.{Range, Spelling}
use Rattle.fix_values.specs.declared.rule.Dec.{Dec}
use Rattle.fix_values.specs.Numerals.{sign, signed, is_below_zero, is_negative, unsigned, is_numeral, is_value}
use Rattle.fix_values.specs.Decimals.{SameFraction, dec, zeros, places, without_leading, without_trailing, kept_before, digits_at, pointed, Parts, digits_counted, whole_of, rest_of, shown_parts, parts_text, shown_text, decimal_text, before_point, behind_point, parts_of, are_digits, reduced, decimal_of, leaf_number, fitted}
use Rattle.fix_values.proofs.NumeralLemmas.{both, together, false≢true, ok_is, sized, sign_taken, digits_first, value_append}
use Rattle.value_laws.proofs.ReadBack.{numeral_of}
use Rattle.value_laws.proofs.Fractions.{sign_of, below_some, fit_only, turned}
use Rattle.fix_values.proofs.DecimalLemmas.{ten_pos, ten_next, rest_small, trailing_again, digits_trailing, whole_small, no_places}
use Rattle.std.specs.Int.{w128}

-- digits after a number add their own number to it, moved by as many places
first_value : (d : ℕ) (ds : List ℕ) → digits_value 10 (d ∷ ds) ≡ digits_value_after 10 (digit_value d) ds
first_value d ds = let alone : 0 * 10 + digit_value d ≡ digit_value d = omega arith in ap (λ n. digits_value_after 10 n ds) alone

digit_moves : (n v l rest : ℕ) → (n * 10 + v) * l + rest ≡ n * (10 * l) + (v * l + rest)
digit_moves n v l rest = grind arith

value_after_is : (n : ℕ) (ds : List ℕ) → digits_value_after 10 n ds ≡ n * 10 ^ length ds + digits_value 10 ds
value_after_is n [] = omega arith
value_after_is n (d ∷ ds) =
    let l = 10 ^ length ds in
    value_after_is (n * 10 + digit_value d) ds
    ∙ (digit_moves n (digit_value d) l (digits_value 10 ds)
    ∙ (ap (λ p. n * p + (digit_value d * l + digits_value 10 ds)) (sym (ten_next (length ds)))
    ∙ ap (λ v. n * 10 ^ suc (length ds) + v) (sym (first_value d ds ∙ value_after_is (digit_value d) ds))))

pub parts_value : (xs ys : List ℕ) → digits_value 10 (xs ++ ys) ≡ digits_value 10 xs * 10 ^ length ys + digits_value 10 ys
parts_value xs ys = value_append 0 xs ys ∙ value_after_is (digits_value 10 xs) ys

leading_by : (b : Bool) (d : ℕ) (ds rest : List ℕ) → eqb d 48 ≡ b → digits_value 10 rest ≡ digits_value 10 ds → digits_value 10 (cond b rest (d ∷ ds)) ≡ digits_value 10 (d ∷ ds)
leading_by true d ds rest h same =
    let none : digit_value d ≡ 0 = ap digit_value (eqb-true d 48 h) in
    same ∙ (ap (λ n. digits_value_after 10 n ds) (sym none) ∙ sym (first_value d ds))
leading_by false d ds rest h same = refl

pub value_leading : (ds : List ℕ) → digits_value 10 (without_leading ds) ≡ digits_value 10 ds
value_leading [] = refl
value_leading (d ∷ ds) = leading_by (eqb d 48) d ds (without_leading ds) refl (value_leading ds)

-- the digits of a fraction spell what is left
pub digits_at_length : (k r : ℕ) → length (digits_at k r) ≡ k
digits_at_length zero r = refl
digits_at_length (suc k) r = ap suc (digits_at_length k (r % 10 ^ k))

glyph_value : (q : ℕ) → q < 10 → digit_value (48 + q) ≡ q
glyph_value q h = grind (arith, nat_tests)

glyph_digit : (q : ℕ) → q < 10 → is_ascii_digit (48 + q) ≡ true
glyph_digit q h = grind (arith, nat_tests)

quotient_digit : (r p : ℕ) → 0 < p → r < 10 * p → r / p < 10
quotient_digit r p some small = (div-lt_iff_lt-mul some).1 small

digits_at_value : (k r : ℕ) → r < 10 ^ k → digits_value 10 (digits_at k r) ≡ r
digits_at_value zero r small = omega arith
digits_at_value (suc k) r small =
    let q = r / 10 ^ k in
    let digit : digit_value (48 + q) ≡ q = glyph_value q (quotient_digit r (10 ^ k) (ten_pos k) (omega (arith, small, ten_next k))) in
    let later : digits_value 10 (digits_at k (r % 10 ^ k)) ≡ r % 10 ^ k = digits_at_value k (r % 10 ^ k) (rest_small k r (10 ^ k) refl) in
    let joint : digits_value_after 10 (digit_value (48 + q)) (digits_at k (r % 10 ^ k)) ≡ digit_value (48 + q) * 10 ^ length (digits_at k (r % 10 ^ k)) + digits_value 10 (digits_at k (r % 10 ^ k)) =
    value_after_is (digit_value (48 + q)) (digits_at k (r % 10 ^ k)) in
    first_value (48 + q) (digits_at k (r % 10 ^ k)) ∙ joint ∙ rw (digit, digits_at_length k (r % 10 ^ k), later) (div-add-mod' r (10 ^ k))

digits_at_digits : (k r : ℕ) → r < 10 ^ k → all_ascii_digits (digits_at k r) ≡ true
digits_at_digits zero r small = refl
digits_at_digits (suc k) r small =
    together (is_ascii_digit (48 + r / 10 ^ k)) _ (glyph_digit (r / 10 ^ k) (quotient_digit r (10 ^ k) (ten_pos k) (omega (arith, small, ten_next k))))
    (digits_at_digits k (r % 10 ^ k) (rest_small k r (10 ^ k) refl))

-- digits are those that are kept, and zeros after them
padded_by : (b : Bool) (d : ℕ) (ds : List ℕ) (j : ℕ) → eqb d 48 ≡ b → ds ≡ replicate j 48 → (i : ℕ) × (d ∷ ds ≡ cond b [] (d ∷ []) ++ replicate i 48)
padded_by true d ds j is h = (suc j, ap (λ k. k ∷ ds) (eqb-true d 48 is) ∙ ap (λ l. 48 ∷ l) h)
padded_by false d ds j is h = (j, ap (λ l. d ∷ l) h)

padded_on : (d : ℕ) (ds t : List ℕ) (j : ℕ) → ds ≡ t ++ replicate j 48 → (i : ℕ) × (d ∷ ds ≡ kept_before d t ++ replicate i 48)
padded_on d ds [] j h = padded_by (eqb d 48) d ds j refl h
padded_on d ds (e ∷ es) j h = (j, ap (λ l. d ∷ l) h)

pub padded : (ds : List ℕ) → (j : ℕ) × (ds ≡ without_trailing ds ++ replicate j 48)
padded [] = (0, refl)
padded (d ∷ ds) = padded_on d ds (without_trailing ds) (padded ds).0 (padded ds).1

value_zeros : (n j : ℕ) → digits_value_after 10 n (replicate j 48) ≡ n * 10 ^ j
value_zeros n zero = omega arith
value_zeros n (suc j) = value_zeros (n * 10 + 0) j ∙ rw (ten_next j) (grind arith)

pub padded_value : (ds t : List ℕ) (j : ℕ) → ds ≡ t ++ replicate j 48 → digits_value 10 ds ≡ digits_value 10 t * 10 ^ j
padded_value ds t j h = ap (digits_value 10) h ∙ (value_append 0 t (replicate j 48) ∙ value_zeros (digits_value 10 t) j)

pub padded_length : (ds t : List ℕ) (j : ℕ) → ds ≡ t ++ replicate j 48 → length ds ≡ length t + j
padded_length ds t j h = ap length h ∙ (length-append t (replicate j 48) ∙ ap (λ k. length t + k) (length-replicate j 48))

-- the parts of a text that was put together
no_point : (d : ℕ) → is_ascii_digit d ≡ true → eqb d 46 ≡ false
no_point d h = grind (arith, nat_tests)

before_is : (whole rest : List ℕ) → all_ascii_digits whole ≡ true → before_point rest ≡ [] → before_point (whole ++ rest) ≡ whole
before_is [] rest h none = none
before_is (d ∷ ds) rest h none =
    let all = both (is_ascii_digit d) (all_ascii_digits ds) h in
    rw (no_point d all.0, before_is ds rest all.1 none)

behind_is : (whole rest : List ℕ) → all_ascii_digits whole ≡ true → behind_point (whole ++ rest) ≡ behind_point rest
behind_is [] rest h = refl
behind_is (d ∷ ds) rest h =
    let all = both (is_ascii_digit d) (all_ascii_digits ds) h in
    rw (no_point d all.0, behind_is ds rest all.1)

pointed_before : (fraction : List ℕ) → before_point (pointed fraction) ≡ []
pointed_before [] = refl
pointed_before (f ∷ fs) = refl

pointed_behind : (fraction : List ℕ) → behind_point (pointed fraction) ≡ fraction
pointed_behind [] = refl
pointed_behind (f ∷ fs) = refl

pointed_plain : (fraction : List ℕ) → is_negative (pointed fraction) ≡ false
pointed_plain [] = refl
pointed_plain (f ∷ fs) = refl

-- the parts of a sign, digits, and what follows them
pub split_parts : (negative : Bool) (whole rest : List ℕ) → all_ascii_digits whole ≡ true → is_negative rest ≡ false → before_point rest ≡ [] →
    parts_of (sign negative ++ (whole ++ rest)) ≡ record { negative = negative; whole = whole; fraction = behind_point rest }
split_parts negative whole rest digits plain none =
    let taken = sign_taken negative (whole ++ rest) (digits_first whole rest digits plain) in
    rw (taken.0, taken.1, before_is whole rest digits none, behind_is whole rest digits)

pub parts_back : (parts : Parts) → is_numeral parts.whole ≡ true → parts_of (parts_text parts) ≡ parts
parts_back parts h =
    let digits = (both (nat_lt 0 (length parts.whole)) (all_ascii_digits parts.whole) h).1 in
    split_parts parts.negative parts.whole (pointed parts.fraction) digits (pointed_plain parts.fraction) (pointed_before parts.fraction)
    ∙ ap (λ f. record { negative = parts.negative; whole = parts.whole; fraction = f }) (pointed_behind parts.fraction)

pub placed : (k : ℕ) → natural (neg_ℤ (neg_ℤ (pos k))) ≡ k
placed zero = refl
placed (suc k) = refl

joined : (x i j : ℕ) → x * 10 ^ (i + j) ≡ x * 10 ^ i * 10 ^ j
joined x i j = ap (λ p. x * p) (pow-add 10 i j) ∙ sym (mul_assoc x (10 ^ i) (10 ^ j))

total_some : (m e : ℤ) (n : ℕ) → n ≡ unsigned_abs m * 10 ^ natural e → is_below_zero m ≡ true → 0 < n
total_some m e n size below = let some : 0 < unsigned_abs m * 10 ^ natural e = mul-pos (below_some m below) (ten_pos (natural e)) in omega (arith, size, some)

counts : (a b : ℕ) → 0 < a → nat_lt 0 (a + b) ≡ true
counts a b h = grind (arith, nat_tests)

lt-true : (a : ℕ) → nat_lt 0 a ≡ true → 0 < a
lt-true a h = grind (arith, nat_tests)

pub digits_are : (whole fraction : List ℕ) → is_numeral whole ≡ true → all_ascii_digits fraction ≡ true → are_digits whole fraction ≡ true
digits_are whole fraction w f =
    let numeral = both (nat_lt 0 (length whole)) (all_ascii_digits whole) w in
    together (nat_lt 0 (length whole + length fraction)) _ (counts (length whole) (length fraction) (lt-true (length whole) numeral.0)) (together (all_ascii_digits whole) _ numeral.1 f)

factor_some : (x a n b : ℕ) → x * 10 ^ a ≡ n * 10 ^ b → 0 < n → 0 < x
factor_some zero a n b h some = absurd (omega (arith, h, mul-pos some (ten_pos b)))
factor_some (suc x) a n b h some = omega arith

-- the reduced decimal of a whole part and a fraction is the fraction that they make up
whole_size : (v w n i j k : ℕ) → w ≡ v * 10 ^ j → n ≡ w * 10 ^ k + 0 → v * 10 ^ j * 10 ^ k ≡ n * 10 ^ 0
whole_size v w n i j k front total = ap (λ x. x * 10 ^ k) (sym front) ∙ omega (arith, total)

reduced_whole : (b : Bool) (m e : ℤ) (n w r : ℕ) (whole : List ℕ) → b ≡ is_below_zero m → n ≡ unsigned_abs m * 10 ^ natural e → n ≡ w * 10 ^ natural (neg_ℤ e) + r → digits_value 10 whole ≡ w → r ≡ 0 →
    SameFraction (reduced b whole []) (dec m e)
reduced_whole b m e n w r whole sign_is size_is total front none =
    let t = without_trailing whole in
    let pad = padded whole in
    let j = length whole - length t in
    let move : pad.0 ≡ j = omega (arith, padded_length whole t pad.0 pad.1) in
    let value : w ≡ digits_value 10 t * 10 ^ j = sym front ∙ (padded_value whole t pad.0 pad.1 ∙ ap (λ k. digits_value 10 t * 10 ^ k) move) in
    let size : digits_value 10 t * 10 ^ j * 10 ^ natural (neg_ℤ e) ≡ n * 10 ^ 0 = whole_size (digits_value 10 t) w n 0 j (natural (neg_ℤ e)) value (omega (arith, total, none)) in
    let some : b ≡ true → 0 < digits_value 10 t = λ below. factor_some (digits_value 10 t) (j + natural (neg_ℤ e)) n 0 (joined (digits_value 10 t) j (natural (neg_ℤ e)) ∙ size)
    (total_some m e n size_is (sym sign_is ∙ below)) in
    record {
      sign = sign_of b (digits_value 10 t) some ∙ sign_is;
      size =
          ap (λ x. x * 10 ^ j * 10 ^ natural (neg_ℤ e)) (sized b (digits_value 10 t))
          ∙ (size ∙ (ap (λ x. x * 10 ^ 0) size_is ∙ ap (λ k. unsigned_abs m * 10 ^ natural e * 10 ^ k) (sym (no_places j))));
    }

fraction_size : (w v r n i l k : ℕ) → r ≡ v * 10 ^ i → k ≡ l + i → n ≡ w * 10 ^ k + r → (w * 10 ^ l + v) * 10 ^ 0 * 10 ^ k ≡ n * 10 ^ l
fraction_size w v r n i l k back count total =
    let power : 10 ^ k ≡ 10 ^ l * 10 ^ i = ap (λ x. 10 ^ x) count ∙ pow-add 10 l i in
    rw (total, back, power) (grind arith)

reduced_fraction : (b : Bool) (m e : ℤ) (n w r i : ℕ) (whole : List ℕ) (f : ℕ) (fs : List ℕ) → b ≡ is_below_zero m → n ≡ unsigned_abs m * 10 ^ natural e → n ≡ w * 10 ^ natural (neg_ℤ e) + r → digits_value 10 whole ≡ w →
    r ≡ digits_value 10 (f ∷ fs) * 10 ^ i → natural (neg_ℤ e) ≡ length (f ∷ fs) + i → SameFraction (reduced b whole (f ∷ fs)) (dec m e)
reduced_fraction b m e n w r i whole f fs sign_is size_is total front back count =
    let l = length (f ∷ fs) in
    let k = natural (neg_ℤ e) in
    let x = digits_value 10 (whole ++ f ∷ fs) in
    let value : x ≡ w * 10 ^ l + digits_value 10 (f ∷ fs) = parts_value whole (f ∷ fs) ∙ ap (λ y. y * 10 ^ l + digits_value 10 (f ∷ fs)) front in
    let size : x * 10 ^ 0 * 10 ^ k ≡ n * 10 ^ l = ap (λ y. y * 10 ^ 0 * 10 ^ k) value ∙ fraction_size w (digits_value 10 (f ∷ fs)) r n i l k back count total in
    let some : b ≡ true → 0 < x = λ below. factor_some x (0 + k) n l (joined x 0 k ∙ size) (total_some m e n size_is (sym sign_is ∙ below)) in
    record {
      sign = sign_of b x some ∙ sign_is;
      size =
          ap (λ y. y * 10 ^ 0 * 10 ^ k) (sized b x)
          ∙ (size ∙ (ap (λ y. y * 10 ^ l) size_is ∙ ap (λ z. unsigned_abs m * 10 ^ natural e * 10 ^ z) (sym (placed l))));
    }

pub same_reduced : (b : Bool) (m e : ℤ) (n w r i : ℕ) (whole fraction : List ℕ) → b ≡ is_below_zero m → n ≡ unsigned_abs m * 10 ^ natural e → n ≡ w * 10 ^ natural (neg_ℤ e) + r → digits_value 10 whole ≡ w →
    r ≡ digits_value 10 fraction * 10 ^ i → natural (neg_ℤ e) ≡ length fraction + i → SameFraction (reduced b whole fraction) (dec m e)
same_reduced b m e n w r i whole [] sign_is size_is total front back count = reduced_whole b m e n w r whole sign_is size_is total front (omega (arith, back))
same_reduced b m e n w r i whole (f ∷ fs) sign_is size_is total front back count = reduced_fraction b m e n w r i whole f fs sign_is size_is total front back count

-- what is shown of a decimal is read as the same fraction
shown_by : (a c : Bool) (text parts_is : List ℕ) → ◌≡◌ {A = Result (List ℕ) V} (if a then (if c then Ok parts_is else Err Range) else Err Range) (Ok text) → (c ≡ true) × (parts_is ≡ text)
shown_by true true text own h = (refl, ok_is own text h)
shown_by true false text own h = absurd (cc h)
shown_by false c text own h = absurd (cc h)

-- the decimal of a text's parts
abbrev pub of_parts : Parts → Result Dec V
of_parts q = if are_digits q.whole q.fraction then (if nat_le (digits_counted q) 38 then Ok (reduced q.negative (without_leading q.whole) (without_trailing q.fraction)) else Err Range) else Err Spelling

pub of_parts_is : (a c : Bool) (r : Dec) → a ≡ true → c ≡ true → ◌≡◌ {A = Result Dec V} (if a then (if c then Ok r else Err Range) else Err Spelling) (Ok r)
of_parts_is true true r h g = refl
of_parts_is true false r h g = absurd (false≢true g)
of_parts_is false c r h g = absurd (false≢true h)

pub decimal_back : (d : Dec) (text : List ℕ) → whole_of d < 10 ^ 64 → decimal_text d ≡ Ok text → (r : Dec) × (decimal_of text ≡ Ok r) × SameFraction r d
decimal_back d text small h =
    let p = shown_parts d in
    let shown = shown_by (int_le (neg_ℤ (pos 18)) d.exponent && int_le d.exponent (pos 18)) (nat_le (digits_counted p) 38) text (parts_text p) h in
    let k = places d in
    let left = rest_small k (unsigned_abs d.mantissa * 10 ^ zeros d) (10 ^ k) refl in
    let numeral = numeral_of (whole_of d) small in
    let parts : parts_of text ≡ p = ap parts_of (sym shown.1) ∙ parts_back p numeral.0 in
    let whole_digits = (both (nat_lt 0 (length p.whole)) (all_ascii_digits p.whole) numeral.0).1 in
    let fraction_digits : all_ascii_digits p.fraction ≡ true = digits_trailing (digits_at k (rest_of d)) (digits_at_digits k (rest_of d) left) in
    let are : are_digits p.whole p.fraction ≡ true = digits_are p.whole p.fraction numeral.0 fraction_digits in
    let read : decimal_of text ≡ Ok (reduced p.negative (without_leading p.whole) (without_trailing p.fraction)) =
    ap of_parts parts ∙ of_parts_is (are_digits p.whole p.fraction) (nat_le (digits_counted p) 38) (reduced p.negative (without_leading p.whole) (without_trailing p.fraction)) are shown.0 in
    let pad = padded (digits_at k (rest_of d)) in
    let value : rest_of d ≡ digits_value 10 p.fraction * 10 ^ pad.0 = sym (digits_at_value k (rest_of d) left) ∙ padded_value (digits_at k (rest_of d)) p.fraction pad.0 pad.1 in
    let count : k ≡ length p.fraction + pad.0 = sym (digits_at_length k (rest_of d)) ∙ padded_length (digits_at k (rest_of d)) p.fraction pad.0 pad.1 in
    let again : without_trailing p.fraction ≡ p.fraction = trailing_again (digits_at k (rest_of d)) in
    let same : SameFraction (reduced p.negative (without_leading p.whole) p.fraction) (dec d.mantissa d.exponent) =
    same_reduced p.negative d.mantissa d.exponent (unsigned_abs d.mantissa * 10 ^ zeros d) (whole_of d) (rest_of d) pad.0 (without_leading p.whole) p.fraction refl refl
    (sym (div-add-mod' (unsigned_abs d.mantissa * 10 ^ zeros d) (10 ^ k))) (value_leading p.whole ∙ numeral.1) value count in
    (reduced p.negative (without_leading p.whole) (without_trailing p.fraction), read, subst (λ f. SameFraction (reduced p.negative (without_leading p.whole) f) d) (sym again) same)

within_by : (a c : Bool) (own : Result (List ℕ) V) (text : List ℕ) → (if a && c then own else Err Range) ≡ Ok text → c ≡ true
within_by true true own text h = refl
within_by true false own text h = absurd (cc h)
within_by false c own text h = absurd (cc h)

pub decimals_back : (m e : ℤ) (text : List ℕ) → FitsSigned w128 m → decimal_text (dec m e) ≡ Ok text → (d : Dec) × (decimal_of text ≡ Ok d) × SameFraction d (dec m e)
decimals_back m e text fits h =
    let high : int_le e (pos 18) ≡ true = within_by (int_le (neg_ℤ (pos 18)) e) (int_le e (pos 18)) (shown_text (shown_parts (dec m e))) text h in
    decimal_back (dec m e) text (whole_small m e fits high) h

-- and it has the mantissa that was shown under the exponent that was shown
pub fits_back : (leaf : LeafOf) (m e : ℤ) (text : List ℕ) → FitsSigned w128 m → is_value leaf m ≡ true → decimal_text (dec m e) ≡ Ok text → (d : Dec) × (decimal_of text ≡ Ok d) × (fitted d leaf e ≡ Ok m)
fits_back leaf m e text fits is h =
    let back = decimals_back m e text fits h in
    (back.0, back.1, ap (leaf_number leaf) (fit_only back.0 e m (turned back.2)) ∙ rw is)
