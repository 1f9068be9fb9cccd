-- Texts that a writer takes as the value of a field.
use Rattle.std.proofs.Common.{◌≡◌, ◌≢◌, ◌<◌, ◌≤◌, ℕ, ◌^◌, true, false, Bool, List, [], ◌∷◌, length, Result, Ok, Err, refl, ◌+◌, arith}
use Rattle.std.specs.Prelude.{decimal, ◌==◌, ◌||◌, cond}
use Rattle.std.specs.List.{AllByRecursion}
use Rattle.std.specs.Char.{is_ascii_digit}
use Rattle.std.specs.Str.{all_ascii_digits}
use Rattle.std.proofs.lemmas.Bool.{and_parts as both}
use Rattle.std.proofs.lemmas.Fmt.{digits_decimal, decimal_nonempty}
use Rattle.std.proofs.lemmas.Str.Parse.{numerals_by_value, tells_all_ascii_digits}
use Rattle.std.proofs.lemmas.Bool.Decides.{nat_tests}
use Rattle.fix_values.specs.declared.rule.V.{V}
use Rattle.fix_values.specs.declared.rule.V.TheVariants.{Soh}
use Rattle.fix_values.specs.Codes.{has_soh}
use Rattle.fix_values.specs.Values.{text_shown}
use Rattle.tagvalue_codec.specs.Fields.{soh}
use Rattle.tagvalue_codec.specs.Drafts.{IsValue}

no_soh : (c : ℕ) → is_ascii_digit c ≡ true → c ≢ soh
no_soh c h e = let low : 48 ≤ c = grind (arith, nat_tests) in omega arith

digits_plain : (ds : List ℕ) → all_ascii_digits ds ≡ true → AllByRecursion (λ b. b ≢ soh) ds
digits_plain [] h = tt
digits_plain (c ∷ ds) h = (no_soh c (both (is_ascii_digit c) (all_ascii_digits ds) h).0, digits_plain ds (both (is_ascii_digit c) (all_ascii_digits ds) h).1)

pub count_value : (n : ℕ) → n < 2 ^ 64 → IsValue (decimal n)
count_value n small = record {
  some = decimal_nonempty n small;
  plain = digits_plain (decimal n) (digits_decimal (numerals_by_value _ tells_all_ascii_digits) n (omega (arith, small)));
}

-- a number of one digit
pub digit_value : (n : ℕ) → n < 10 → IsValue ((48 + n) ∷ [])
digit_value n small = record { some = omega arith; plain = (λ e. omega (arith, e), tt) }

not_soh : (b : ℕ) → (b == soh) ≡ false → b ≢ soh
not_soh b h e = grind (arith, nat_tests, h, e)

neither : (a b : Bool) → (a || b) ≡ false → (a ≡ false) × (b ≡ false)
neither true b h = absurd cc
neither false b h = (refl, h)

pub plain_bytes : (t : List ℕ) → has_soh t ≡ false → AllByRecursion (λ b. b ≢ soh) t
plain_bytes [] h = tt
plain_bytes (b ∷ bs) h = let parts = neither (b == soh) (has_soh bs) h in (not_soh b parts.0, plain_bytes bs parts.1)

pub plain_value : (t : List ℕ) → 0 < length t → has_soh t ≡ false → IsValue t
plain_value t some plain = record { some = some; plain = plain_bytes t plain }

judged : (t : List ℕ) (b : Bool) (v : V) → has_soh t ≡ b → cond {A = Result Unit V} b (Err v) (Ok tt) ≡ Ok tt → has_soh t ≡ false
judged t true v is h = absurd cc
judged t false v is h = is

pub shown_value : (t : List ℕ) → text_shown t ≡ Ok tt → IsValue t
shown_value [] h = absurd cc
shown_value (b ∷ bs) h = plain_value (b ∷ bs) (omega arith) (judged (b ∷ bs) (has_soh (b ∷ bs)) Soh refl h)
