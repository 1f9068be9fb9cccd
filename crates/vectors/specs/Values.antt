-- The value that is drawn for a part of each kind. Own profile.
use Rattle.std.specs.Prelude.{ℕ, ◌+◌, ◌^◌, ◌==◌, min, Bool, not, ◌&&◌, ◌||◌, if◌then◌else◌, List, [], ◌∷◌, length, replicate, Option, Some, None, ℤ, pos, negsuc, ◌+ℤ◌, ◌-ℤ◌, int_le, nat_lt, slice_get, bit_or, unsigned_abs}
use Rattle.sbe_types.specs.declared.kind.LeafShape.{LeafShape}
use Rattle.sbe_types.specs.declared.kind.LeafShape.TheVariants.{Number, RangedText, EncodedText, Octets, Numbers}
use Rattle.sbe_types.specs.declared.kind.Leaf.{Leaf as LeafOf}
use Rattle.sbe_types.specs.declared.kind.Named.{Named}
use Rattle.sbe_types.specs.declared.kind.Kind.{Kind, Leaf, Enum, Set, Const, Comp', Row_of-Member, end_of-Member, more_of-Member}
use Rattle.sbe_types.specs.declared.kind.Member.{Member}
use Rattle.sbe_types.specs.declared.message.Elem.{Elem}
use Rattle.sbe_types.specs.declared.message.Elem.TheVariants as elem
use Rattle.sbe_types.specs.declared.message.Value.{Value}
use Rattle.sbe_types.specs.declared.message.Value.TheVariants as value
use Rattle.sbe_types.specs.Numbers.{natural}
use Rattle.sbe_types.specs.Shown.{is_optional, is_octets, admits, is_null}
use Rattle.sbe_types.specs.Shows.{is_ranged, text_value}
use Rattle.vectors.specs.declared.numbers.TheConstants.{WORD_LIMIT, BYTE_VALUES, LAST_BYTE, FIRST_LETTER, LETTERS, SET_BITS}
use Rattle.vectors.specs.Drawing.{Drawing, ◌>>=◌, always, below, times, or_null}

-- ---- numbers

-- how many numbers there are from low to high
abbrev pub size_of : ℤ → ℤ → ℕ
size_of low high = if int_le low high then unsigned_abs (high -ℤ low) + 1 else 0

-- a number from low to high; only one of the first WORD_LIMIT if there are more
abbrev pub number_in : ℤ → ℤ → Drawing ℤ
number_in low high = below (min (size_of low high) WORD_LIMIT) >>= (λ n. always (low +ℤ pos n))

-- the number as a value of the leaf
abbrev pub number_value : LeafOf → ℤ → Value
number_value leaf n = if is_null leaf n then value.Null else value.Num n

-- a number of the leaf
abbrev pub number_drawn : LeafOf → Drawing Value
number_drawn leaf = number_in leaf.low leaf.high >>= (λ n. always (number_value leaf n))

-- ---- arrays

-- the number as an element of the array
abbrev pub element_value : LeafOf → ℤ → Elem
element_value leaf n = if is_null leaf n then elem.Null else elem.Num n

-- one element of an array of numbers
abbrev pub element_drawn : LeafOf → Drawing Elem
element_drawn leaf = number_in leaf.low leaf.high >>= (λ n. always (element_value leaf n))

-- an octet
abbrev pub octet_drawn : Drawing Elem
octet_drawn = below BYTE_VALUES >>= (λ n. always (elem.Num (pos n)))

-- an array whose elements are all null
abbrev pub all_null : LeafOf → Value
all_null leaf = value.Nums (replicate leaf.length elem.Null)

-- an array of as many elements as it is long
abbrev pub array_drawn : LeafOf → Drawing Elem → Drawing Value
array_drawn leaf draw = times leaf.length draw >>= (λ elements. always (value.Nums elements))

-- ---- texts

-- the least byte of a text, which never contains 00
abbrev pub least_byte : LeafOf → ℤ
least_byte leaf = if admits leaf (pos 0) then pos 1 else leaf.low

-- a text can contain some byte
abbrev pub has_bytes : LeafOf → Bool
has_bytes leaf = not (is_ranged leaf.shape) || int_le (least_byte leaf) leaf.high

-- the byte nearest to the number; each number of a char's range is a byte
abbrev pub byte_of : ℤ → ℕ
byte_of n = min (natural n) LAST_BYTE

-- a byte of a text: one of its range, or a capital letter if there is a character encoding
abbrev pub text_byte_drawn : LeafOf → Drawing ℕ
text_byte_drawn leaf =
    if is_ranged leaf.shape
    then (number_in (least_byte leaf) leaf.high >>= (λ n. always (byte_of n)))
    else (below LETTERS >>= (λ n. always (FIRST_LETTER + n)))

-- the length of a text; an optional one isn't empty, since that would be null
abbrev pub text_length_drawn : LeafOf → Drawing ℕ
text_length_drawn leaf = if is_optional leaf.presence then (below leaf.length >>= (λ n. always (n + 1))) else below (leaf.length + 1)

-- how many bytes a text of this length has: none if it can't contain any byte
abbrev pub byte_count : LeafOf → ℕ → ℕ
byte_count leaf n = if has_bytes leaf then n else 0

-- a text: its length, and then its bytes
abbrev pub text_drawn : LeafOf → Drawing Value
text_drawn leaf = do
  n ← text_length_drawn leaf
  bytes ← times (byte_count leaf n) (text_byte_drawn leaf)
  always (text_value leaf bytes)

-- ---- leaves

-- a leaf may be null if it is optional and not octets
abbrev pub may_be_null : LeafOf → Bool
may_be_null leaf = is_optional leaf.presence && not (is_octets leaf.shape)

-- the value of a null leaf
abbrev pub null_of : LeafShape → LeafOf → Value
null_of Number leaf = value.Null
null_of RangedText leaf = value.Null
null_of EncodedText leaf = value.Null
null_of Octets leaf = all_null leaf
null_of Numbers leaf = all_null leaf

-- a value of a leaf that isn't null
abbrev pub there_drawn : LeafShape → LeafOf → Drawing Value
there_drawn Number leaf = number_drawn leaf
there_drawn RangedText leaf = text_drawn leaf
there_drawn EncodedText leaf = text_drawn leaf
there_drawn Octets leaf = array_drawn leaf octet_drawn
there_drawn Numbers leaf = array_drawn leaf (element_drawn leaf)

-- a value of a leaf
abbrev pub leaf_drawn : LeafOf → Drawing Value
leaf_drawn leaf = or_null (may_be_null leaf) (null_of leaf.shape leaf) (there_drawn leaf.shape leaf)

-- ---- enums and sets

-- a valid value; null if its number is the null
abbrev pub listed_value : LeafOf → Option Named → Value
listed_value leaf None = value.Null
listed_value leaf (Some v) = if is_null leaf v.number then value.Null else value.Enum v.number

-- one of the valid values of an enum
abbrev pub choice_drawn : LeafOf → List Named → Drawing Value
choice_drawn leaf values = below (length values) >>= (λ n. always (listed_value leaf (slice_get values n)))

-- a value of an enum; an optional one may be null
abbrev pub enum_drawn : LeafOf → List Named → Drawing Value
enum_drawn leaf values = or_null (is_optional leaf.presence) value.Null (choice_drawn leaf values)

-- the bits with that of a choice, if it was drawn
abbrev pub with_bit : ℕ → ℤ → ℕ → ℕ
with_bit bits (pos k) n = if (n == 1) && nat_lt k SET_BITS then bit_or bits (2 ^ k) else bits
with_bit bits (negsuc k) n = bits

-- the bits with those of the choices that are drawn
unfoldable pub bits_drawn : ℕ → List Named → Drawing ℕ
bits_drawn bits [] = always bits
bits_drawn bits (choice ∷ choices) = below 2 >>= (λ n. bits_drawn (with_bit bits choice.number n) choices)

-- ---- kinds

unfoldable mutual
  -- a value of the kind
  pub value_drawn : Kind → Drawing Value
  value_drawn (Leaf leaf) = leaf_drawn leaf
  value_drawn (Enum leaf values) = enum_drawn leaf values
  value_drawn (Set prim choices) = bits_drawn 0 choices >>= (λ bits. always (value.Set bits))
  value_drawn (Const c) = always value.Const
  value_drawn (Comp' n members) = row_drawn members >>= (λ values. always (value.Comp values))

  -- a value of each member
  pub row_drawn : {n : _} → Row_of-Member n → Drawing (List Value)
  row_drawn end_of-Member = always []
  row_drawn (more_of-Member name offset kind rest) = do
    v ← value_drawn kind
    vs ← row_drawn rest
    always (v ∷ vs)

-- a value of the member
abbrev pub member_drawn : Member → Drawing Value
member_drawn member = value_drawn member.kind
