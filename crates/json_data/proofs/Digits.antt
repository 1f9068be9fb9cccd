-- A number of digits alone.
use Rattle.std.proofs.Common.{◌≡◌, ℕ, ◌^◌, ◌<◌, ◌==◌, List, [], ◌∷◌, ◌++◌, length, get_or, false, Some, refl, sym, ap, ◌∙◌, arith, append-nil, lt-ltb, ne_eqb}
use Rattle.std.specs.Char.{digit_value}
use Rattle.std.specs.Str.Parse.{IsNumeral, digits_value}
use Rattle.fast_float.specs.Text.{Parts, scan, IsWellFormed}
use Rattle.fast_float.proofs.Writing.{scan-text_of}
use Rattle.serde_json.specs.Data.{unsigned}
use Rattle.serde_json.specs.Read.{number_of, number_from}

-- what is scanned of them
abbrev parts_of : List ℕ → Parts
parts_of ds = record { whole = ds; point = false; fraction = []; exponent_negative = false; exponent = []; len = length (ds ++ []) }

scanned : (ds : List ℕ) → IsNumeral 10 ds → scan ds ≡ parts_of ds
scanned ds h =
    let formed : IsWellFormed (parts_of ds) = record { whole_digits = h.1; fraction_digits = tt; exponent_digits = tt; no_point = λ _. refl; no_exponent = λ _. refl; len_is = refl } in
    ap scan (sym (append-nil ds)) ∙ scan-text_of (parts_of ds) formed

no_minus : (ds : List ℕ) → IsNumeral 10 ds → get_or ds 0 0 ≡ 45 → ⊥
no_minus [] h e = omega (arith, h.0)
no_minus (d ∷ ds) h e = let digit : digit_value d < 10 = h.1.0 in let is : d ≡ 45 = e in grind arith

pub digits_read : (ds : List ℕ) → IsNumeral 10 ds → digits_value 10 ds < 2 ^ 64 → number_of ds ≡ Some (unsigned (digits_value 10 ds))
unfolding number_of
digits_read ds h small =
    let plain : (get_or ds 0 0 == 45) ≡ false = ne_eqb (get_or ds 0 0) 45 (no_minus ds h) in
    let read : number_of ds ≡ number_from false (scan ds) = rw plain in
    read ∙ ap (number_from false) (scanned ds h) ∙ rw (lt-ltb _ _ h.0, append-nil ds) (rw (lt-ltb _ _ small))
