-- The texts of values, found without the general rules.
use Rattle.std.proofs.Common.{◌≡◌, ◌<◌, ◌++◌, ◌^◌, ℕ, ℤ, pos, negsuc, unsigned_abs, get_or, Bool, false, cond, List, [], ◌∷◌, length, drop, Option, Some, Result, Ok, Err, sym, ap, ◌∙◌, arith}
use Rattle.std.specs.Prelude.{◌==◌, ◌||◌, decimal}
use Rattle.std.specs.Int.{w64, FitsUnsigned}
use Rattle.std.proofs.lemmas.Int.{ints}
use Rattle.std.specs.Fmt.{signed_decimal}
use Rattle.std.proofs.lemmas.List.{append-nil, drop_all}
use Rattle.fix_values.specs.declared.rule.V.{V}
use Rattle.fix_values.specs.declared.rule.V.TheVariants as why
use Rattle.fix_values.specs.declared.rule.Code.{Code}
use Rattle.fix_values.specs.Codes.{found_text, has_soh}
use Rattle.bridge_rules.specs.Texts.{field_text}

-- digits at the end of a room
pub room_digits : (room old : List ℕ) (at n : ℕ) → length old ≡ 40 → drop at room ≡ decimal n ++ drop 40 old → drop at room ≡ decimal n
room_digits room old at n long is = is ∙ (ap (λ ds. decimal n ++ ds) (drop_all 40 old (omega (arith, long))) ∙ append-nil (decimal n))

-- a number from 0 on of at most 64 bits
pub fits_small : (n : ℤ) (size : ℕ) → FitsUnsigned w64 n → size ≡ unsigned_abs n → size < 2 ^ 64
fits_small (pos m) size fits is = omega (arith, ints, fits.1, is)
fits_small (negsuc m) size fits is = absurd (omega (arith, ints, fits.0))

-- a text that a value gives
abbrev given : List ℕ → Result (Option (List ℕ)) V
given t = Ok (Some t)

pub digits_told : (n : ℤ) (size : ℕ) (t : List ℕ) → FitsUnsigned w64 n → size ≡ unsigned_abs n → t ≡ decimal size
    → ◌≡◌ {A = Result (Option (List ℕ)) V} (Ok (Some (signed_decimal n))) (Ok (Some t))
digits_told (pos m) size t fits is text = ap (λ (k : ℕ). given (decimal k)) (sym is) ∙ ap given (sym text)
digits_told (negsuc m) size t fits is text = absurd (omega (arith, ints, fits.0))

-- a byte other than SOH
pub single_plain : (t : List ℕ) → length t ≡ 1 → (get_or t 0 0 == 1) ≡ false → has_soh t ≡ false
single_plain [] one other = absurd (omega (arith, one))
single_plain (b ∷ []) one other = ap (λ s. s || false) other
single_plain (b ∷ d ∷ bs) one other = absurd (omega (arith, one))

-- the text of a code without SOH
pub code_told : (code : Code) (t : List ℕ) → t ≡ code.text → has_soh t ≡ false → field_text (found_text (Some code)) ≡ Ok (Some t)
code_told code t same plain =
    ap (λ (s : Bool). field_text (cond {A = Result (List ℕ) V} s (Err why.Soh) (Ok code.text))) (ap has_soh (sym same) ∙ plain) ∙ ap given (sym same)
