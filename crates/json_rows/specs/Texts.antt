-- The texts of a line that are the same in each message: keys, and the values of constants. From RFC 8259, Objects,
-- Strings and Numbers; which JSON stands for which value is own profile.
use Rattle.std.specs.Prelude.{ℕ, ◌&&◌, nat_le, Bool, if◌then◌else◌, List, ◌++◌, codes}
use Rattle.std.specs.List.{list_all}
use Rattle.hex.specs.Hex.{encode_lower}
use Rattle.json.specs.Print.{quoted}
use Rattle.serde_json.specs.Find.{of_integer}
use Rattle.serde_json.specs.Written.{comma_if, number_text}
use Rattle.sbe_types.specs.declared.kind.ConstValue.{ConstValue}
use Rattle.sbe_types.specs.declared.kind.ConstValue.TheVariants as constant

-- a quoted name and a colon, after a comma if another member precedes it
abbrev pub key_of : Bool → List ℕ → List ℕ
key_of later name = comma_if later ++ (codes "\"" ++ (name ++ codes "\":"))

-- a byte from 20 to 7e: a space, or a visible character
abbrev pub is_seen : ℕ → Bool
is_seen b = nat_le 32 b && nat_le b 126

-- bytes as an object with their hexadecimal digits, in lower case
abbrev pub hex_text : List ℕ → List ℕ
hex_text bytes = codes "{\"hex\":" ++ (quoted (encode_lower bytes) ++ codes "}")

-- a constant as the value that it has: an integer, a string if each byte is printable, else its hexadecimal digits, or
-- a valid value by its name
abbrev pub constant_text : ConstValue → List ℕ
constant_text (constant.Num n) = number_text (of_integer n)
constant_text (constant.Text bytes) = if list_all is_seen bytes then quoted bytes else hex_text bytes
constant_text (constant.Code prim named) = quoted named.name
