-- Digits, signs and the whole numbers that they spell, and which numbers are a leaf's. From the FIX tag-value encoding,
-- datatype int, and SBE 1.0, Field encoding.
use Rattle.std.specs.Prelude.{◌≡◌, ℕ, Bool, true, false, not, ◌&&◌, ◌==◌, nat_lt, if◌then◌else◌, List, [], ◌∷◌, ◌++◌, length, codes, ℤ, pos, negsuc, neg_ℤ, Option, Some, None}
use Rattle.std.specs.Str.{all_ascii_digits}
use Rattle.std.specs.Str.Parse.{digits_value}
use Rattle.sbe_types.specs.declared.kind.Leaf.{Leaf as LeafOf}
use Rattle.sbe_types.specs.Shown.{is_null, admits}

-- the text before the digits: `-` for a negative number, else nothing
abbrev pub sign : Bool → List ℕ
sign true = codes "-"
sign false = []

-- the number with this sign and size
abbrev pub signed : Bool → ℕ → ℤ
signed true size = neg_ℤ (pos size)
signed false size = pos size

-- whether a number is negative
abbrev pub is_below_zero : ℤ → Bool
is_below_zero (pos n) = false
is_below_zero (negsuc n) = true

-- one digit or more, and nothing else
abbrev pub is_numeral : List ℕ → Bool
is_numeral digits = nat_lt 0 (length digits) && all_ascii_digits digits

-- the text spells this whole number: an optional minus sign and then digits, leading zeros allowed (FIX datatype int)
pub record SpellsInteger (text : List ℕ) (n : ℤ) : Type 0 where
  pub negative : Bool
  pub digits : List ℕ
  pub spelled : text ≡ sign negative ++ digits
  pub numeral : is_numeral digits ≡ true
  pub number : n ≡ signed negative (digits_value 10 digits)

-- whether a text begins with a minus sign
abbrev pub is_negative : List ℕ → Bool
is_negative [] = false
is_negative (b ∷ bs) = b == 45

-- a text without its leading minus sign, if it has one
abbrev pub unsigned : List ℕ → List ℕ
unsigned [] = []
unsigned (b ∷ bs) = if b == 45 then bs else b ∷ bs

-- the whole number that a text spells, if it spells one
abbrev pub integer_of : List ℕ → Option ℤ
integer_of text = if is_numeral (unsigned text) then Some (signed (is_negative text) (digits_value 10 (unsigned text))) else None

-- the number is one of the leaf's: within its range, and not the null of an optional leaf
abbrev pub is_value : LeafOf → ℤ → Bool
is_value leaf n = not (is_null leaf n) && admits leaf n
