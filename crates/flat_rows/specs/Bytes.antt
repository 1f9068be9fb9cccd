-- The valid values of an enum of one byte, looked up by byte. From SBE 1.0, Enumeration encoding.
use Rattle.std.specs.Prelude.{◌≡◌, ◌<◌, ℕ, ℤ, Bool, true, false, ◌&&◌, ◌||◌, ◌==◌, List, length, get_or, slice_index, pos}
use Rattle.std.specs.Ordering.{int_eq}
use Rattle.sbe_types.specs.declared.kind.Kind.{Kind, Leaf, Enum, Set, Const, Comp'}
use Rattle.sbe_types.specs.declared.kind.Leaf.{Leaf as LeafOf}
use Rattle.sbe_types.specs.declared.kind.Named.{Named}
use Rattle.sbe_types.specs.declared.kind.Primitive.{Primitive}
use Rattle.sbe_types.specs.declared.kind.Primitive.TheVariants.{Char, I8, I16, I32, I64, U8, U16, U32, U64}
use Rattle.sbe_types.specs.Shown.{is_listed, is_null}

-- each number of the primitive equals its byte
abbrev pub is_byte : Primitive → Bool
is_byte Char = true
is_byte U8 = true
is_byte I8 = false
is_byte I16 = false
is_byte I32 = false
is_byte I64 = false
is_byte U16 = false
is_byte U32 = false
is_byte U64 = false

-- the kind is an enum of one byte, and the byte is one of its valid values or its null
abbrev pub is_valid_byte : Kind → ℕ → Bool
is_valid_byte (Enum leaf names) b = is_byte leaf.prim && (is_null leaf (pos b) || is_listed names (pos b))
is_valid_byte (Leaf l) b = false
is_valid_byte (Set p names) b = false
is_valid_byte (Const c) b = false
is_valid_byte (Comp' n members) b = false

-- the table has 1 for exactly the bytes that are valid
abbrev pub AreValidBytes : List ℕ → Kind → Type 0
AreValidBytes valid kind = (b : ℕ) → b < 256 → (get_or valid b 0 == 1) ≡ is_valid_byte kind b

-- the value has one byte, which the table has as valid
pub record IsValidByte (valid bytes : List ℕ) : Type 0 where
  pub one : length bytes ≡ 1
  pub small : slice_index bytes 0 < 256
  pub set : get_or valid (slice_index bytes 0) 0 ≡ 1

-- ---- while the table is built

-- no byte is valid yet
abbrev pub AreUnset : List ℕ → Type 0
AreUnset valid = (b : ℕ) → b < 256 → (get_or valid b 0 == 1) ≡ false

-- exactly the numbers of the names are valid
abbrev pub AreListedBytes : List ℕ → List Named → Type 0
AreListedBytes valid names = (b : ℕ) → b < 256 → (get_or valid b 0 == 1) ≡ is_listed names (pos b)

-- one more number is valid
abbrev pub Notes : ℤ → List ℕ → List ℕ → Type 0
Notes number old new = (b : ℕ) → b < 256 → (get_or new b 0 == 1) ≡ (int_eq number (pos b) || (get_or old b 0 == 1))

-- the null of an enum is valid too
abbrev pub NotesNull : LeafOf → List ℕ → List ℕ → Type 0
NotesNull leaf old new = (b : ℕ) → b < 256 → (get_or new b 0 == 1) ≡ (is_null leaf (pos b) || (get_or old b 0 == 1))
