-- The number that a text of digits is, as std's `parse` reads it.
use Rattle.std.proofs.Common.{◌≡◌, ℕ, ◌+◌, ◌<◌, ◌≤◌, Bool, true, false, cond, List, [], ◌∷◌, length, drop, refl, sym, ap, ◌∙◌, subst, arith, rules}
use Rattle.std.specs.Prelude.{◌&&◌, ◌==◌, nat_lt, int_le, slice_index, unwrap_or, zero, suc, IsAscii, IsUtf8, ℤ, pos, negsuc, Option, Some, None, if◌then◌else◌, ◌^◌}
use Rattle.std.specs.Str.{all_ascii_digits}
use Rattle.std.specs.Str.Parse.{AllDigits, IsNumeral, without_leading_sign, signed_digits_value, digits_value}
use Rattle.std.specs.Int.RustNames.{FitsSigned}
use Rattle.std.proofs.lemmas.Str.Parse.{IsNumeralModel, numerals_by_value, tells_all_ascii_digits}
use Rattle.std.proofs.lemmas.Bool.Decides.{nat_tests}
use Rattle.std.proofs.Common.{to_z-of_z}
use mir.Val.{to_z, of_z}
use mir.Syntax.{w128}
use Rattle.std.proofs.lemmas.Bool.Decides.{Decides-eqb}
use Rattle.std.proofs.lemmas.Str.{IsUtf8-from_ascii, IsUtf8-nil}
use Rattle.std.proofs.lemmas.Fmt.{IsAscii-from_digits}
use Rattle.schema_rules.specs.Ranges.{digits_part, is_whole_text, number_between}
use Rattle.type_facts.specs.Wholes.{fits_i128, whole_in}

own : IsNumeralModel (λ ds. all_ascii_digits ds ≡ true) (digits_value 10)
own = numerals_by_value _ tells_all_ascii_digits

plain : (s : List ℕ) (minus plus : Bool) → plus ≡ false → cond minus (drop 1 s) (drop (cond plus 1 0) s) ≡ cond minus (drop 1 s) s
plain s true plus h = refl
plain s false true h = cc
plain s false false h = refl

same_digits : (s : List ℕ) → (slice_index s 0 == 43) ≡ false → without_leading_sign s ≡ digits_part s
same_digits s h = plain s (slice_index s 0 == 45) (slice_index s 0 == 43) h

fits_told : (n : ℤ) → FitsSigned w128 n → fits_i128 n ≡ true
fits_told (pos n) h = let small : n < 2 ^ 127 = h.sfits in grind (arith, nat_tests)
fits_told (negsuc n) h = let small : n < 2 ^ 127 = h.sfits in grind (arith, nat_tests)

fits_meant : (n : ℤ) → fits_i128 n ≡ true → FitsSigned w128 n
fits_meant (pos n) h = let small : n < 2 ^ 127 = grind (arith, nat_tests) in record { sfits = small }
fits_meant (negsuc n) h = let small : n < 2 ^ 127 = grind (arith, nat_tests) in record { sfits = small }

chosen : (a b c : Bool) (n : ℤ) → a ≡ true → b ≡ true → c ≡ true → ◌≡◌ {A = Option ℤ} (if (a && b) && c then Some n else None) (Some n)
chosen true true true n p q r = refl
chosen false b c n p q r = cc
chosen true false c n p q r = cc
chosen true true false n p q r = cc

unchosen : (a b c : Bool) (n : ℤ) → (a ≡ true → b ≡ true → c ≡ true → ⊥) → ◌≡◌ {A = Option ℤ} (if (a && b) && c then Some n else None) (None)
unchosen true true true n h = absurd (h refl refl refl)
unchosen false b c n h = refl
unchosen true false c n h = refl
unchosen true true false n h = refl

some_told : (ds : List ℕ) → 0 < length ds → nat_lt 0 (length ds) ≡ true
some_told ds h = grind (arith, nat_tests)

some_meant : (ds : List ℕ) → nat_lt 0 (length ds) ≡ true → 0 < length ds
some_meant ds h = grind (arith, nat_tests)

read_as : (s : List ℕ) → (slice_index s 0 == 43) ≡ false → IsNumeral 10 (without_leading_sign s) → FitsSigned w128 (signed_digits_value 10 s) → whole_in s ≡ Some (signed_digits_value 10 s)
read_as s plus numeral fits =
    let digits : IsNumeral 10 (digits_part s) = subst (IsNumeral 10) (same_digits s plus) numeral in
    chosen _ _ _ _ (some_told (digits_part s) digits.0) (own.from (digits_part s) digits.1) (fits_told _ fits)

pub read_number : (s : List ℕ) (n : ℤ) → (slice_index s 0 == 43) ≡ false → (IsNumeral 10 (without_leading_sign s) × FitsSigned w128 (signed_digits_value 10 s)) × (n ≡ signed_digits_value 10 s) → whole_in s ≡ Some (to_z w128 (of_z w128 n))
read_number s n plus h =
    read_as s plus h.0.0 h.0.1 ∙ ap Some (sym (ap (λ (z : ℤ). to_z w128 (of_z w128 z)) h.1 ∙ to_z-of_z h.0.1))

pub read_none : (s : List ℕ) → (slice_index s 0 == 43) ≡ false → ¬ (IsNumeral 10 (without_leading_sign s) × FitsSigned w128 (signed_digits_value 10 s)) → whole_in s ≡ None
read_none s plus unread =
    unchosen _ _ _ _ (λ some digits fits.
    unread (subst (IsNumeral 10) (sym (same_digits s plus)) (some_meant (digits_part s) some, own.to (digits_part s) digits), fits_meant _ fits))

-- ---- a number between two others

conj : (a b : Bool) → (a && b) ≡ true → (a ≡ true) × (b ≡ true)
conj true true h = (refl, refl)
conj true false h = cc
conj false b h = cc

read_some : (w f : Bool) (v n : ℤ) → ◌≡◌ {A = Option ℤ} (if w && f then Some v else None) (Some n) → (w ≡ true) × (v ≡ n)
read_some true true v n h = (refl, ap (λ (o : Option ℤ). unwrap_or o v) h)
read_some true false v n h = cc
read_some false f v n h = cc

between_by : (w : Bool) (least most v n : ℤ) → (w ≡ true) × (v ≡ n) →
    ◌≡◌ {A = Option ℤ} (if w && (int_le least v && int_le v most) then Some v else None) (if int_le least n && int_le n most then Some n else None)
between_by true least most v n h = ap (λ (z : ℤ). if int_le least z && int_le z most then Some z else None) h.1
between_by false least most v n h = cc

pub between_read : (least most : ℤ) (s : List ℕ) (n : ℤ) → whole_in s ≡ Some n → number_between least most s ≡ (if int_le least n && int_le n most then Some n else None)
between_read least most s n h =
    between_by (is_whole_text s) least most (signed_digits_value 10 s) n (read_some (is_whole_text s) (fits_i128 (signed_digits_value 10 s)) (signed_digits_value 10 s) n h)

ascii_cons : (c : ℕ) (cs : List ℕ) → c < 128 → IsAscii cs → IsAscii (c ∷ cs)
ascii_cons c cs h hs zero = h
ascii_cons c cs h hs (suc i) = hs i

digits_ascii : (s : List ℕ) → all_ascii_digits s ≡ true → IsAscii s
digits_ascii s h = IsAscii-from_digits s (own.to s h)

signed_ascii : (b : Bool) (c : ℕ) (cs : List ℕ) → b ≡ (c == 45) → all_ascii_digits (if b then cs else c ∷ cs) ≡ true → IsAscii (c ∷ cs)
signed_ascii true c cs is h =
    let minus : c ≡ 45 = (Decides-eqb c 45).0 (sym is) in
    ascii_cons c cs (omega (arith, minus)) (digits_ascii cs h)
signed_ascii false c cs is h = digits_ascii (c ∷ cs) h

whole_utf8 : (s : List ℕ) → is_whole_text s ≡ true → IsUtf8 s
whole_utf8 [] h = IsUtf8-nil
whole_utf8 (c ∷ cs) h = IsUtf8-from_ascii (c ∷ cs) (signed_ascii (c == 45) c cs refl (conj (nat_lt 0 (length (digits_part (c ∷ cs)))) (all_ascii_digits (digits_part (c ∷ cs))) h).1)

unread : (w b : Bool) (v : ℤ) → (w ≡ true → ⊥) → ◌≡◌ {A = Option ℤ} None (if w && b then Some v else None)
unread true b v h = absurd (h refl)
unread false b v h = refl

pub between_unread : (least most : ℤ) (s : List ℕ) → ¬ (IsUtf8 s) → None ≡ number_between least most s
between_unread least most s h =
    unread (is_whole_text s) (int_le least (signed_digits_value 10 s) && int_le (signed_digits_value 10 s) most) (signed_digits_value 10 s) (λ w. h (whole_utf8 s w))

pub kept_alike : (a a' b b' n n' : ℤ) → a ≡ a' → b ≡ b' → n ≡ n' →
    ◌≡◌ {A = Option ℤ} (if int_le a n && int_le n b then Some n else None) (if int_le a' n' && int_le n' b' then Some n' else None)
kept_alike a a' b b' n n' h k m = cc
