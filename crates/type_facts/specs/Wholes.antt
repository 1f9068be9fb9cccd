-- Whole numbers that fit an `i128`.
use Rattle.std.specs.Prelude.{ℕ, ◌^◌, ◌&&◌, nat_lt, Bool, true, false, if◌then◌else◌, List, Option, Some, None, ℤ, pos, negsuc}
use Rattle.std.specs.Str.Parse.{signed_digits_value}
use Rattle.schema_rules.specs.Ranges.{is_whole_text}

-- from -2^127 to 2^127 - 1
abbrev pub fits_i128 : ℤ → Bool
fits_i128 (pos n) = nat_lt n (2 ^ 127)
fits_i128 (negsuc n) = nat_lt n (2 ^ 127)

-- the number that a text spells, if it fits an `i128`
abbrev pub whole_in : List ℕ → Option ℤ
whole_in text = if is_whole_text text && fits_i128 (signed_digits_value 10 text) then Some (signed_digits_value 10 text) else None
