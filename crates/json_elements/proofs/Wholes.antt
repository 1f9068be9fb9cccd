-- The number that a text of digits is, as std's `parse` reads it.
use Rattle.std.proofs.Common.{◌≡◌, ℕ, ◌<◌, Bool, true, false, cond, List, length, drop, refl, sym, ap, ◌∙◌, subst, arith}
use Rattle.std.specs.Prelude.{◌&&◌, ◌==◌, nat_lt, slice_index, ℤ, pos, negsuc, Ok, if◌then◌else◌, ◌^◌}
use Rattle.std.specs.Str.{all_ascii_digits}
use Rattle.std.specs.Str.Parse.{IsNumeral, without_leading_sign, signed_digits_value, digits_value}
use Rattle.std.specs.Int.RustNames.{FitsSigned}
use Rattle.std.proofs.lemmas.Str.Parse.{IsNumeralModel, numerals_by_value, tells_all_ascii_digits}
use Rattle.std.proofs.lemmas.Bool.Decides.{nat_tests}
use Rattle.std.proofs.Common.{to_z-of_z}
use mir.Val.{to_z, of_z}
use mir.Syntax.{w128}
use Rattle.json_elements.specs.declared.refusal.Cause.TheVariants.{BadAttribute}
use Rattle.json_elements.specs.Reading.{Reading, refuse}
use Rattle.json_elements.specs.Forms.{digits_part, fits_i128, whole_text}

own : IsNumeralModel (λ ds. all_ascii_digits ds ≡ true) (digits_value 10)
own = numerals_by_value _ tells_all_ascii_digits

plain : (s : List ℕ) (minus plus : Bool) → plus ≡ false → cond minus (drop 1 s) (drop (cond plus 1 0) s) ≡ cond minus (drop 1 s) s
plain s true plus h = refl
plain s false true h = cc
plain s false false h = refl

same_digits : (s : List ℕ) → (slice_index s 0 == 43) ≡ false → without_leading_sign s ≡ digits_part s
same_digits s h = plain s (slice_index s 0 == 45) (slice_index s 0 == 43) h

fits_told : (n : ℤ) → FitsSigned w128 n → fits_i128 n ≡ true
fits_told (pos n) h = let small : n < 2 ^ 127 = h.sfits in grind (arith, nat_tests)
fits_told (negsuc n) h = let small : n < 2 ^ 127 = h.sfits in grind (arith, nat_tests)

fits_meant : (n : ℤ) → fits_i128 n ≡ true → FitsSigned w128 n
fits_meant (pos n) h = let small : n < 2 ^ 127 = grind (arith, nat_tests) in record { sfits = small }
fits_meant (negsuc n) h = let small : n < 2 ^ 127 = grind (arith, nat_tests) in record { sfits = small }

chosen : (a b c : Bool) (n : ℤ) → a ≡ true → b ≡ true → c ≡ true → ◌≡◌ {A = Reading ℤ} (if (a && b) && c then Ok n else refuse BadAttribute) (Ok n)
chosen true true true n p q r = refl
chosen false b c n p q r = cc
chosen true false c n p q r = cc
chosen true true false n p q r = cc

unchosen : (a b c : Bool) (n : ℤ) → (a ≡ true → b ≡ true → c ≡ true → ⊥) → ◌≡◌ {A = Reading ℤ} (if (a && b) && c then Ok n else refuse BadAttribute) (refuse BadAttribute)
unchosen true true true n h = absurd (h refl refl refl)
unchosen false b c n h = refl
unchosen true false c n h = refl
unchosen true true false n h = refl

some_told : (ds : List ℕ) → 0 < length ds → nat_lt 0 (length ds) ≡ true
some_told ds h = grind (arith, nat_tests)

some_meant : (ds : List ℕ) → nat_lt 0 (length ds) ≡ true → 0 < length ds
some_meant ds h = grind (arith, nat_tests)

read_as : (s : List ℕ) → (slice_index s 0 == 43) ≡ false → IsNumeral 10 (without_leading_sign s) → FitsSigned w128 (signed_digits_value 10 s) → whole_text s ≡ Ok (signed_digits_value 10 s)
read_as s plus numeral fits =
    let digits : IsNumeral 10 (digits_part s) = subst (IsNumeral 10) (same_digits s plus) numeral in
    chosen _ _ _ _ (some_told (digits_part s) digits.0) (own.from (digits_part s) digits.1) (fits_told _ fits)

pub read_number : (s : List ℕ) (n : ℤ) → (slice_index s 0 == 43) ≡ false → (IsNumeral 10 (without_leading_sign s) × FitsSigned w128 (signed_digits_value 10 s)) × (n ≡ signed_digits_value 10 s) → whole_text s ≡ Ok (to_z w128 (of_z w128 n))
read_number s n plus h =
    read_as s plus h.0.0 h.0.1 ∙ ap Ok (sym (ap (λ (z : ℤ). to_z w128 (of_z w128 z)) h.1 ∙ to_z-of_z h.0.1))

pub read_none : (s : List ℕ) → (slice_index s 0 == 43) ≡ false → ¬ (IsNumeral 10 (without_leading_sign s) × FitsSigned w128 (signed_digits_value 10 s)) → whole_text s ≡ refuse BadAttribute
read_none s plus unread =
    unchosen _ _ _ _ (λ some digits fits.
    unread (subst (IsNumeral 10) (sym (same_digits s plus)) (some_meant (digits_part s) some, own.to (digits_part s) digits), fits_meant _ fits))
