-- The value that one number shows. From SBE 1.0, Field encoding, and for valid values and choices Message schema. Own
-- profile: octets, a null inside the range, and unlisted numbers and bits of later versions.
use Rattle.std.specs.Prelude.{ℕ, zero, suc, Bool, true, false, not, ◌&&◌, ◌||◌, ◌==◌, if◌then◌else◌, List, ℤ, pos, int_le, Option, Some, None}
use Rattle.std.specs.List.{list_any}
use Rattle.std.specs.Ordering.{int_eq}
use Rattle.std.specs.Int.{bit_at}
use Rattle.sbe_types.specs.declared.kind.Presence.{Presence}
use Rattle.sbe_types.specs.declared.kind.Presence.TheVariants.{Required, Optional, Constant}
use Rattle.sbe_types.specs.declared.kind.LeafShape.{LeafShape}
use Rattle.sbe_types.specs.declared.kind.LeafShape.TheVariants.{Number, RangedText, EncodedText, Octets, Numbers}
use Rattle.sbe_types.specs.declared.kind.Leaf.{Leaf as LeafOf}
use Rattle.sbe_types.specs.declared.kind.Kind.{Kind, Leaf, Enum, Set, Const, Comp'}
use Rattle.sbe_types.specs.declared.kind.Named.{Named}
use Rattle.sbe_types.specs.declared.message.Elem.{Elem}
use Rattle.sbe_types.specs.declared.message.Elem.TheVariants as elem
use Rattle.sbe_types.specs.declared.message.Value.{Value}
use Rattle.sbe_types.specs.declared.message.Value.TheVariants as value
use Rattle.sbe_types.specs.Numbers.{natural}

-- the presence is optional
abbrev pub is_optional : Presence → Bool
is_optional Optional = true
is_optional Required = false
is_optional Constant = false

-- the leaf is an array of uint8 without a stated range: its bytes are octets
abbrev pub is_octets : LeafShape → Bool
is_octets Octets = true
is_octets Number = false
is_octets RangedText = false
is_octets EncodedText = false
is_octets Numbers = false

-- the number is within the leaf's range
abbrev pub admits : LeafOf → ℤ → Bool
admits leaf n = int_le leaf.low n && int_le n leaf.high

-- the leaf is optional and not octets, and the number is its null
abbrev pub is_null : LeafOf → ℤ → Bool
is_null leaf n = (is_optional leaf.presence && not (is_octets leaf.shape)) && int_eq n leaf.null

-- the value of one element of an array: null, or a number in the range
abbrev pub shown_element : LeafOf → ℤ → Option Elem
shown_element leaf n = if is_null leaf n then Some elem.Null else (if admits leaf n then Some (elem.Num n) else None)

-- the value of a single number: null, even where the null is within the range, or a number in the range
abbrev pub shown_number : LeafOf → ℤ → Option Value
shown_number leaf n = if is_null leaf n then Some value.Null else (if admits leaf n then Some (value.Num n) else None)

-- the number is one of the valid values, or the bit one of the choices
abbrev pub is_listed : List Named → ℤ → Bool
is_listed names n = list_any (λ name. int_eq name.number n) names

-- null, a listed number, or any number in a message of a later version than the schema's
abbrev pub shown_enum : LeafOf → List Named → Bool → ℤ → Option Value
shown_enum leaf names known n =
    if is_null leaf n then Some value.Null else (if is_listed names n || not known then Some (value.Enum n) else None)

-- each bit below k that n has set is listed
abbrev pub has_listed_bits : List Named → ℕ → ℕ → Bool
has_listed_bits names zero n = true
has_listed_bits names (suc k) n = has_listed_bits names k n && (bit_at n k == 0 || is_listed names (pos k))

-- a set whose bits are listed, or any set in a message of a later version than the schema's; a set is never null
abbrev pub shown_set : List Named → Bool → ℕ → Option Value
shown_set names known n = if has_listed_bits names 64 n || not known then Some (value.Set n) else None

-- the value that one number shows, if it shows one
abbrev pub shown : Kind → Bool → ℤ → Option Value
shown (Leaf l) known n = shown_number l n
shown (Enum l names) known n = shown_enum l names known n
shown (Set p names) known n = shown_set names known (natural n)
shown (Const c) known n = None
shown (Comp' k members) known n = None
