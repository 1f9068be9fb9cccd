-- The numbers of each primitive (SBE 1.0, "Encoding: numeric types, range and null"), and those that texts spell.
use Rattle.std.specs.Prelude.{ℕ, ◌*◌, ◌-◌, ◌&&◌, ◌==◌, nat_lt, int_le, Bool, true, false, if◌then◌else◌, List, [], ◌∷◌, length, drop, slice_index, Option, Some, None, ℤ, pos, negsuc}
use Rattle.std.specs.Str.{all_ascii_digits}
use Rattle.std.specs.Str.Parse.{signed_digits_value}
use Rattle.sbe_types.specs.declared.kind.Primitive.{Primitive}
use Rattle.sbe_types.specs.declared.kind.Primitive.TheVariants.{Char, I8, I16, I32, I64, U8, U16, U32, U64}
use Rattle.schema_rules.specs.declared.numbers.Numbers.{Numbers}

-- the least and the greatest number; the range and the null that apply if the schema states none
abbrev pub numbers_of : Primitive → Numbers
numbers_of Char = record { least = pos 0; greatest = pos 255; low = pos 32; high = pos 126; null = pos 0 }
numbers_of I8 = record { least = negsuc 127; greatest = pos 127; low = negsuc 126; high = pos 127; null = negsuc 127 }
numbers_of I16 = record { least = negsuc 32767; greatest = pos 32767; low = negsuc 32766; high = pos 32767; null = negsuc 32767 }
numbers_of I32 = record { least = negsuc 2147483647; greatest = pos 2147483647; low = negsuc 2147483646; high = pos 2147483647; null = negsuc 2147483647 }
numbers_of I64 = record { least = negsuc 9223372036854775807; greatest = pos 9223372036854775807; low = negsuc 9223372036854775806; high = pos 9223372036854775807; null = negsuc 9223372036854775807 }
numbers_of U8 = record { least = pos 0; greatest = pos 255; low = pos 0; high = pos 254; null = pos 255 }
numbers_of U16 = record { least = pos 0; greatest = pos 65535; low = pos 0; high = pos 65534; null = pos 65535 }
numbers_of U32 = record { least = pos 0; greatest = pos 4294967295; low = pos 0; high = pos 4294967294; null = pos 4294967295 }
numbers_of U64 = record { least = pos 0; greatest = pos 18446744073709551615; low = pos 0; high = pos 18446744073709551614; null = pos 18446744073709551615 }

-- a number of the primitive, whatever its range
abbrev pub is_number_of : Primitive → ℤ → Bool
is_number_of prim n = int_le (numbers_of prim).least n && int_le n (numbers_of prim).greatest

-- The primitive is a character.
abbrev pub is_char : Primitive → Bool
is_char Char = true
is_char I8 = false
is_char I16 = false
is_char I32 = false
is_char I64 = false
is_char U8 = false
is_char U16 = false
is_char U32 = false
is_char U64 = false

-- ---- numbers as texts: digits after an optional `-`

-- The text after an optional `-`.
abbrev pub digits_part : List ℕ → List ℕ
digits_part text = if slice_index text 0 == 45 then drop 1 text else text

-- A text of digits after an optional `-`.
abbrev pub is_whole_text : List ℕ → Bool
is_whole_text text = nat_lt 0 (length (digits_part text)) && all_ascii_digits (digits_part text)

-- the number that a text spells, if it is between these two
abbrev pub number_between : ℤ → ℤ → List ℕ → Option ℤ
number_between least most text =
    if is_whole_text text && (int_le least (signed_digits_value 10 text) && int_le (signed_digits_value 10 text) most)
    then Some (signed_digits_value 10 text) else None

-- the number of the primitive that a text spells, if it spells one
abbrev pub number_in : Primitive → List ℕ → Option ℤ
number_in prim text = number_between (numbers_of prim).least (numbers_of prim).greatest text

-- the byte of a text of one character, as a number
abbrev pub character : List ℕ → Option ℤ
character [] = None
character (c ∷ []) = if nat_lt c 256 then Some (pos c) else None
character (c ∷ (d ∷ cs)) = None

-- the number of a valid value: its character if it is over char, else the number that its text spells
abbrev pub value_number : Primitive → List ℕ → Option ℤ
value_number prim text = if is_char prim then character text else number_in prim text

-- the bit of a choice, if it is one of a number of `width` bytes
abbrev pub bit_number : ℕ → List ℕ → Option ℤ
bit_number width text = number_between (pos 0) (pos (8 * width - 1)) text
