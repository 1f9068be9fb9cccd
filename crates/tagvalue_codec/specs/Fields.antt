-- Fields and their bytes. From the FIX tag=value encoding (FIX 4.4), Message format. Own profile: tags and lengths of
-- at most nine digits.
use Rattle.std.specs.Prelude.{◌≡◌, ◌≢◌, ℕ, ◌<◌, Bool, true, ◌&&◌, nat_lt, nat_le, List, [], ◌∷◌, ◌++◌, length, decimal}
use Rattle.std.specs.List.{flat_map, AllByRecursion}
use Rattle.std.specs.Str.{all_ascii_digits}
use Rattle.std.specs.Str.Parse.{digits_value}

-- the byte that ends a field
abbrev pub soh : ℕ
soh = 1

-- a tag and its value
pub record Field : Type 0 where
  pub tag : ℕ
  pub value : List ℕ

-- a tag in decimal, followed by =
abbrev pub tag_bytes : ℕ → List ℕ
tag_bytes tag = decimal tag ++ (61 ∷ [])

-- a field: its tag, =, its value and SOH
abbrev pub field_bytes : Field → List ℕ
field_bytes f = tag_bytes f.tag ++ (f.value ++ (soh ∷ []))

-- the bytes of fields, concatenated
abbrev pub bytes_of : List Field → List ℕ
bytes_of fields = flat_map field_bytes fields

-- a tag has 1 to 9 digits and no leading zero
pub record IsTag (tag : ℕ) : Type 0 where
  pub above : 0 < tag
  pub below : tag < 1000000000

-- a field whose value is at least one byte, without SOH
pub record IsPlain (f : Field) : Type 0 where
  pub tagged : IsTag f.tag
  pub some : 0 < length f.value
  pub plain : AllByRecursion (λ b. b ≢ soh) f.value

-- 1 to 9 digits
abbrev pub is_number : List ℕ → Bool
is_number value = nat_lt 0 (length value) && (nat_le (length value) 9 && all_ascii_digits value)

-- 1 to 9 digits whose number is above zero
pub record IsCount (value : List ℕ) : Type 0 where
  pub digits : is_number value ≡ true
  pub above : 0 < digits_value 10 value
