-- The forms that an attribute's value may have.
use Rattle.std.specs.Prelude.{ℕ, ◌^◌, ◌&&◌, ◌==◌, nat_le, nat_lt, Bool, if◌then◌else◌, List, length, drop, slice_index, Ok, ℤ, pos, negsuc}
use Rattle.std.specs.Str.{all_ascii_digits}
use Rattle.std.specs.Fmt.{signed_decimal}
use Rattle.std.specs.Str.Parse.{signed_digits_value}
use Rattle.serde_json.specs.Data.{Data, Num, unsigned, negative, float, null, boolean, number, string, array, object}
use Rattle.json_elements.specs.declared.refusal.Cause.TheVariants.{BadAttribute, Limit}
use Rattle.json_elements.specs.Reading.{Reading, ◌>>=◌, refuse}

-- ---- whole numbers: a JSON integer, or a string of decimal digits with an optional `-`

-- the digits after an optional `-`
abbrev pub digits_part : List ℕ → List ℕ
digits_part s = if slice_index s 0 == 45 then drop 1 s else s

-- A text of digits after an optional minus sign.
abbrev pub is_whole_text : List ℕ → Bool
is_whole_text s = nat_lt 0 (length (digits_part s)) && all_ascii_digits (digits_part s)

-- from -2^127 to 2^127 - 1
abbrev pub fits_i128 : ℤ → Bool
fits_i128 (pos n) = nat_lt n (2 ^ 127)
fits_i128 (negsuc n) = nat_lt n (2 ^ 127)

-- the number that a text spells, if it spells one of 128 bits
abbrev pub whole_text : List ℕ → Reading ℤ
whole_text s = if is_whole_text s && fits_i128 (signed_digits_value 10 s) then Ok (signed_digits_value 10 s) else refuse BadAttribute

-- a JSON number is whole unless it is kept as a float
abbrev pub whole_num : Num → Reading ℤ
whole_num (unsigned n) = Ok (pos n)
whole_num (negative z) = Ok z
whole_num (float x) = refuse BadAttribute

-- A whole number: a JSON integer, or a text of digits that fits 128 bits.
abbrev pub whole : Data → Reading ℤ
whole (number n) = whole_num n
whole (string s) = whole_text s
whole null = refuse BadAttribute
whole (boolean b) = refuse BadAttribute
whole (array ds) = refuse BadAttribute
whole (object ms) = refuse BadAttribute

-- ---- numbers from 0 on

-- a number from 0 on; one above `most` gives `above`
abbrev pub natural_to : ℕ → Reading ℕ → ℤ → Reading ℕ
natural_to most above (pos n) = if nat_le n most then Ok n else above
natural_to most above (negsuc n) = refuse BadAttribute

-- from 0 to 4294967295; any other isn't of the form
abbrev pub id_number : Data → Reading ℕ
id_number d = do
  n ← whole d
  natural_to 4294967295 (refuse BadAttribute) n

-- from 0 up to a limit
abbrev pub limited : ℕ → Data → Reading ℕ
limited most d = do
  n ← whole d
  natural_to most (refuse Limit) n

-- ---- texts

-- a JSON string
abbrev pub text : Data → Reading (List ℕ)
text (string s) = Ok s
text null = refuse BadAttribute
text (boolean b) = refuse BadAttribute
text (number n) = refuse BadAttribute
text (array ds) = refuse BadAttribute
text (object ms) = refuse BadAttribute

-- a JSON string, or a JSON integer taken as its decimal digits
abbrev pub text_or_number : Data → Reading (List ℕ)
text_or_number (string s) = Ok s
text_or_number (number n) = whole_num n >>= (λ z. Ok (signed_decimal z))
text_or_number null = refuse BadAttribute
text_or_number (boolean b) = refuse BadAttribute
text_or_number (array ds) = refuse BadAttribute
text_or_number (object ms) = refuse BadAttribute
