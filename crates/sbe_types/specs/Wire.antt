-- The bytes of a value, and which values fit their kind. From SBE 1.0, Field encoding. Own profile: the zeros after a
-- text and between members.
use Rattle.std.specs.Prelude.{◌≡◌, ℕ, ◌+◌, ◌-◌, true, ◌==◌, if◌then◌else◌, Option, Some, None, List, [], ◌∷◌, ◌++◌, length, replicate, pos}
use Rattle.sbe_types.specs.declared.kind.Order.{Order}
use Rattle.sbe_types.specs.declared.kind.LeafShape.{LeafShape}
use Rattle.sbe_types.specs.declared.kind.LeafShape.TheVariants.{Number, RangedText, EncodedText, Octets, Numbers}
use Rattle.sbe_types.specs.declared.kind.Leaf.{Leaf as LeafOf}
use Rattle.sbe_types.specs.declared.kind.Primitive.{Primitive}
use Rattle.sbe_types.specs.declared.kind.Kind.{Kind, Leaf, Enum, Set, Const, Comp', Row_of-Member, end_of-Member, more_of-Member}
use Rattle.sbe_types.specs.declared.message.Elem.{Elem}
use Rattle.sbe_types.specs.declared.message.Elem.TheVariants as elem
use Rattle.sbe_types.specs.declared.message.Value.{Value, items-the_row-Value}
use Rattle.sbe_types.specs.declared.message.Value.TheVariants as value
use Rattle.sbe_types.specs.Numbers.{bytes_of}
use Rattle.sbe_types.specs.Places.{width, is_const, begin_of}
use Rattle.sbe_types.specs.Shows.{Shows}

-- two byte strings concatenated, if both are there
abbrev pub both : Option (List ℕ) → Option (List ℕ) → Option (List ℕ)
both None y = None
both (Some x) None = None
both (Some x) (Some y) = Some (x ++ y)

-- the text, padded with zeros to the width
abbrev pub padded : ℕ → List ℕ → List ℕ
padded n text = text ++ replicate (n - length text) 0

-- the bytes of an element; null has the bytes of the leaf's null
abbrev pub element_bytes : Order → LeafOf → Elem → Option (List ℕ)
element_bytes order leaf (elem.Num n) = bytes_of order leaf.prim n
element_bytes order leaf elem.Null = bytes_of order leaf.prim leaf.null

-- the bytes of elements, concatenated, if each has bytes
abbrev pub elements_bytes : Order → LeafOf → List Elem → Option (List ℕ)
elements_bytes order leaf [] = Some []
elements_bytes order leaf (e ∷ es) = both (element_bytes order leaf e) (elements_bytes order leaf es)

-- the bytes of a single number; null has the bytes of the leaf's null
abbrev pub number_bytes : Order → LeafOf → Value → Option (List ℕ)
number_bytes order leaf (value.Num n) = bytes_of order leaf.prim n
number_bytes order leaf value.Null = bytes_of order leaf.prim leaf.null
number_bytes order leaf (value.Text text) = None
number_bytes order leaf (value.Nums elements) = None
number_bytes order leaf (value.Enum n) = None
number_bytes order leaf (value.Set n) = None
number_bytes order leaf (value.Comp' n row) = None
number_bytes order leaf value.Const = None
number_bytes order leaf value.Absent = None

-- the text, padded with 00 to the end of its array; null is all 00
abbrev pub text_bytes : LeafOf → Value → Option (List ℕ)
text_bytes leaf (value.Text text) = Some (padded (width (Leaf leaf)) text)
text_bytes leaf value.Null = Some (padded (width (Leaf leaf)) [])
text_bytes leaf (value.Num n) = None
text_bytes leaf (value.Nums elements) = None
text_bytes leaf (value.Enum n) = None
text_bytes leaf (value.Set n) = None
text_bytes leaf (value.Comp' n row) = None
text_bytes leaf value.Const = None
text_bytes leaf value.Absent = None

-- the bytes of the elements, if there are as many as the array is long
abbrev pub array_bytes : Order → LeafOf → Value → Option (List ℕ)
array_bytes order leaf (value.Nums elements) = if length elements == leaf.length then elements_bytes order leaf elements else None
array_bytes order leaf (value.Num n) = None
array_bytes order leaf value.Null = None
array_bytes order leaf (value.Text text) = None
array_bytes order leaf (value.Enum n) = None
array_bytes order leaf (value.Set n) = None
array_bytes order leaf (value.Comp' n row) = None
array_bytes order leaf value.Const = None
array_bytes order leaf value.Absent = None

-- the bytes of a single number, a text or an array
abbrev pub leaf_bytes : Order → LeafShape → LeafOf → Value → Option (List ℕ)
leaf_bytes order Number leaf v = number_bytes order leaf v
leaf_bytes order RangedText leaf v = text_bytes leaf v
leaf_bytes order EncodedText leaf v = text_bytes leaf v
leaf_bytes order Octets leaf v = array_bytes order leaf v
leaf_bytes order Numbers leaf v = array_bytes order leaf v

-- the bytes of the number of an enum; null has the bytes of the leaf's null
abbrev pub enum_bytes : Order → LeafOf → Value → Option (List ℕ)
enum_bytes order leaf (value.Enum n) = bytes_of order leaf.prim n
enum_bytes order leaf value.Null = bytes_of order leaf.prim leaf.null
enum_bytes order leaf (value.Num n) = None
enum_bytes order leaf (value.Text text) = None
enum_bytes order leaf (value.Nums elements) = None
enum_bytes order leaf (value.Set n) = None
enum_bytes order leaf (value.Comp' n row) = None
enum_bytes order leaf value.Const = None
enum_bytes order leaf value.Absent = None

-- the bytes of the number of a set
abbrev pub set_bytes : Order → Primitive → Value → Option (List ℕ)
set_bytes order prim (value.Set n) = bytes_of order prim (pos n)
set_bytes order prim (value.Num n) = None
set_bytes order prim value.Null = None
set_bytes order prim (value.Text text) = None
set_bytes order prim (value.Nums elements) = None
set_bytes order prim (value.Enum n) = None
set_bytes order prim (value.Comp' n row) = None
set_bytes order prim value.Const = None
set_bytes order prim value.Absent = None

-- the bytes of a constant, which are empty
abbrev pub const_bytes : Value → Option (List ℕ)
const_bytes value.Const = Some []
const_bytes (value.Num n) = None
const_bytes value.Null = None
const_bytes (value.Text text) = None
const_bytes (value.Nums elements) = None
const_bytes (value.Enum n) = None
const_bytes (value.Set n) = None
const_bytes (value.Comp' n row) = None
const_bytes value.Absent = None

-- the values of a composite's members
abbrev pub member_values : Value → Option (List Value)
member_values (value.Comp' n row) = Some (items-the_row-Value _ row)
member_values (value.Num n) = None
member_values value.Null = None
member_values (value.Text text) = None
member_values (value.Nums elements) = None
member_values (value.Enum n) = None
member_values (value.Set n) = None
member_values value.Const = None
member_values value.Absent = None

abbrev mutual
  -- the bytes of a value, if it has any: a value of another kind has none
  pub wire_bytes : Order → Kind → Value → Option (List ℕ)
  wire_bytes order (Leaf l) v = leaf_bytes order l.shape l v
  wire_bytes order (Enum l names) v = enum_bytes order l v
  wire_bytes order (Set p names) v = set_bytes order p v
  wire_bytes order (Const c) v = const_bytes v
  wire_bytes order (Comp' n members) v = row_bytes order 0 members (member_values v)

  -- the bytes of members after members that end at e: each at its offset, with 00 in the gaps
  pub row_bytes : Order → ℕ → {n : _} → Row_of-Member n → Option (List Value) → Option (List ℕ)
  row_bytes order e row None = None
  row_bytes order e end_of-Member (Some []) = Some []
  row_bytes order e end_of-Member (Some (v ∷ vs)) = None
  row_bytes order e (more_of-Member name offset kind rest) (Some []) = None
  row_bytes order e (more_of-Member name offset kind rest) (Some (v ∷ vs)) =
      both (both (Some (replicate (if is_const kind then 0 else begin_of e offset - e) 0)) (wire_bytes order kind v))
      (row_bytes order (if is_const kind then e else begin_of e offset + width kind) rest (Some vs))

-- the value has bytes, as many as its kind is wide, and they show it at the schema's own version
abbrev pub FitsKind : Order → Kind → Value → Type 0
FitsKind order kind v = (bytes : List ℕ) × (wire_bytes order kind v ≡ Some bytes) × (length bytes ≡ width kind) × Shows order true kind v bytes
