-- The value of a kind, as JSON gives it. Own profile.
use Rattle.std.specs.Prelude.{ℕ, ◌+◌, ◌^◌, ◌==◌, ◌&&◌, Bool, true, false, if◌then◌else◌, List, [], ◌∷◌, length, replicate, slice_index, codes, ℤ, pos, Option, Some, None, Ok}
use Rattle.std.specs.Str.{bytes_eq}
use Rattle.std.specs.Ordering.{int_eq}
use Rattle.std.specs.Int.{bit_at}
use Rattle.serde_json.specs.Data.{Data, Num, null, boolean, number, string, array, object, Items, no_items, item, Members}
use Rattle.serde_json.specs.Find.{get_member, as_object, as_array, as_str, as_u64, as_integer}
use Rattle.sbe_types.specs.declared.kind.Primitive.{Primitive}
use Rattle.sbe_types.specs.declared.kind.Primitive.TheVariants.{Char, I8, I16, I32, I64, U8, U16, U32, U64}
use Rattle.sbe_types.specs.declared.kind.LeafShape.{LeafShape}
use Rattle.sbe_types.specs.declared.kind.LeafShape.TheVariants.{Number, RangedText, EncodedText, Octets, Numbers}
use Rattle.sbe_types.specs.declared.kind.Leaf.{Leaf as LeafOf}
use Rattle.sbe_types.specs.declared.kind.Named.{Named}
use Rattle.sbe_types.specs.declared.kind.ConstValue.{ConstValue}
use Rattle.sbe_types.specs.declared.kind.ConstValue.TheVariants as constant
use Rattle.sbe_types.specs.declared.kind.Kind.{Kind, Leaf, Enum, Set, Const, Comp', Row_of-Member, end_of-Member, more_of-Member}
use Rattle.named_numbers.specs.Bits.{bit_of}
use Rattle.sbe_types.specs.declared.message.Elem.{Elem}
use Rattle.sbe_types.specs.declared.message.Elem.TheVariants as elem
use Rattle.sbe_types.specs.declared.message.Value.{Value}
use Rattle.sbe_types.specs.declared.message.Value.TheVariants as value
use Rattle.sbe_types.specs.Shown.{is_optional}
use Rattle.line_values.specs.declared.refusals.JCode.TheVariants as code
use Rattle.line_values.specs.Refusals.{Reading, ◌>>=◌, refuse, or_refuse, inside}
use Rattle.line_values.specs.Objects.{known, there_or, each, integer_of, bytes_in}

-- ---- numbers, texts and arrays

-- the value of a JSON null, if it is allowed
abbrev pub null_in : Bool → Reading Value
null_in optional = if optional then Ok value.Null else refuse code.Kind []

-- a JSON integer of 64 bits as a value
abbrev pub integer_in : (ℤ → Value) → Num → Reading Value
integer_in made n = or_refuse code.Kind [] (as_integer n) >>= (λ z. Ok (made z))

-- the primitive is char
abbrev pub is_character : Primitive → Bool
is_character Char = true
is_character I8 = false
is_character I16 = false
is_character I32 = false
is_character I64 = false
is_character U8 = false
is_character U16 = false
is_character U32 = false
is_character U64 = false

-- a char as a string of one byte
abbrev pub char_in : Primitive → List ℕ → Reading Value
char_in prim s = if is_character prim && (length s == 1) then Ok (value.Num (pos (slice_index s 0))) else refuse code.Kind []

-- a single number
abbrev pub number_in : LeafOf → Data → Reading Value
number_in l null = null_in (is_optional l.presence)
number_in l (number n) = integer_in value.Num n
number_in l (string s) = char_in l.prim s
number_in l (boolean b) = refuse code.Kind []
number_in l (array ds) = refuse code.Kind []
number_in l (object ms) = refuse code.Kind []

-- the bytes of a text as a value
abbrev pub text_of : Data → Reading Value
text_of d = bytes_in d >>= (λ bytes. Ok (value.Text bytes))

-- a text
abbrev pub text_in : LeafOf → Data → Reading Value
text_in l null = null_in (is_optional l.presence)
text_in l (string s) = text_of (string s)
text_in l (object ms) = text_of (object ms)
text_in l (boolean b) = text_of (boolean b)
text_in l (number n) = text_of (number n)
text_in l (array ds) = text_of (array ds)

-- the number of an element
abbrev pub element_of : Data → Reading Elem
element_of d = or_refuse code.Kind [] (integer_of d) >>= (λ z. Ok (elem.Num z))

-- an element of an array; `nulls`: it may be null
abbrev pub element_in : Bool → Data → Reading Elem
element_in nulls null = if nulls then Ok elem.Null else refuse code.Kind []
element_in nulls (number n) = element_of (number n)
element_in nulls (boolean b) = element_of (boolean b)
element_in nulls (string s) = element_of (string s)
element_in nulls (array ds) = element_of (array ds)
element_in nulls (object ms) = element_of (object ms)

-- the elements of an array
abbrev pub elements_of : Bool → Items → Reading Value
elements_of nulls ds = each (element_in nulls) 0 ds >>= (λ elements. Ok (value.Nums elements))

-- an array
abbrev pub array_in : Bool → Data → Reading Value
array_in nulls d = or_refuse code.Kind [] (as_array d) >>= elements_of nulls

-- a number, a text or an array by its shape
abbrev pub shape_in : LeafShape → LeafOf → Data → Reading Value
shape_in Number l d = number_in l d
shape_in RangedText l d = text_in l d
shape_in EncodedText l d = text_in l d
shape_in Octets l d = array_in false d
shape_in Numbers l d = array_in true d

-- ---- enums, sets and constants

-- the number of the first valid value with this name
abbrev pub number_named : List Named → List ℕ → Option ℤ
number_named [] s = None
number_named (v ∷ vs) s = if bytes_eq v.name s then Some v.number else number_named vs s

-- a valid value by its name
abbrev pub valid_in : List Named → List ℕ → Reading Value
valid_in names s = or_refuse code.UnknownName [] (number_named names s) >>= (λ z. Ok (value.Enum z))

-- an enum: a valid value by its name, or any integer
abbrev pub enum_in : LeafOf → List Named → Data → Reading Value
enum_in l names null = null_in (is_optional l.presence)
enum_in l names (number n) = integer_in value.Enum n
enum_in l names (string s) = valid_in names s
enum_in l names (boolean b) = refuse code.Kind []
enum_in l names (array ds) = refuse code.Kind []
enum_in l names (object ms) = refuse code.Kind []

-- the bit of the first choice with this name
abbrev pub bit_named : List Named → List ℕ → Option ℕ
bit_named [] s = None
bit_named (c ∷ cs) s = if bytes_eq c.name s then bit_of c.number else bit_named cs s

-- the bits with one more, which must not be set yet
abbrev pub with_bit : ℕ → ℕ → Reading ℕ
with_bit bits k = if bit_at bits k == 0 then Ok (bits + 2 ^ k) else refuse code.Kind []

-- the bits with that of a choice by its name
abbrev pub choice_in : List Named → ℕ → Data → Reading ℕ
choice_in names bits d = do
  s ← or_refuse code.Kind [] (as_str d)
  k ← or_refuse code.UnknownName [] (bit_named names s)
  with_bit bits k

-- the bits of choices by their names, added to those before them
unfoldable pub choices_in : List Named → ℕ → Items → Reading ℕ
choices_in names bits no_items = Ok bits
choices_in names bits (item d ds) = choice_in names bits d >>= (λ more. choices_in names more ds)

-- a set: its choices by their names, or its bits as a number
abbrev pub set_in : List Named → Data → Reading Value
set_in names (array ds) = choices_in names 0 ds >>= (λ bits. Ok (value.Set bits))
set_in names (number n) = or_refuse code.Kind [] (as_u64 n) >>= (λ bits. Ok (value.Set bits))
set_in names null = refuse code.Kind []
set_in names (boolean b) = refuse code.Kind []
set_in names (string s) = refuse code.Kind []
set_in names (object ms) = refuse code.Kind []

-- a constant, if the data is its value
abbrev pub fixed : Bool → Reading Value
fixed same = if same then Ok value.Const else refuse code.Kind []

-- the integer is this number
abbrev pub is_number : ℤ → Option ℤ → Bool
is_number n None = false
is_number n (Some z) = int_eq z n

-- a valid value by its name or its number
abbrev pub is_code : Named → Data → Bool
is_code v (string s) = bytes_eq s v.name
is_code v (number n) = is_number v.number (as_integer n)
is_code v null = false
is_code v (boolean b) = false
is_code v (array ds) = false
is_code v (object ms) = false

-- a constant that is a text
abbrev pub fixed_text : List ℕ → Data → Reading Value
fixed_text bytes d = bytes_in d >>= (λ found. fixed (bytes_eq found bytes))

-- a constant, which may be given as the value that it has
abbrev pub constant_in : ConstValue → Data → Reading Value
constant_in (constant.Num n) d = fixed (is_number n (integer_of d))
constant_in (constant.Text bytes) d = fixed_text bytes d
constant_in (constant.Code p named) d = fixed (is_code named d)

-- ---- values

-- the value of an optional leaf that is missing
abbrev pub value_if_missing : LeafOf → Value → Reading Value
value_if_missing l v = if is_optional l.presence then Ok v else refuse code.Shape []

-- the value of an array that is missing: all nulls
abbrev pub array_lack : LeafOf → Reading Value
array_lack l = value_if_missing l (value.Nums (replicate l.length elem.Null))

-- the value of a leaf that is missing: null, or all nulls; octets must not be missing
abbrev pub leaf_lack : LeafShape → LeafOf → Reading Value
leaf_lack Number l = value_if_missing l value.Null
leaf_lack RangedText l = value_if_missing l value.Null
leaf_lack EncodedText l = value_if_missing l value.Null
leaf_lack Octets l = refuse code.Shape []
leaf_lack Numbers l = array_lack l

-- the value of a kind that is missing
abbrev pub lack : Kind → Reading Value
lack (Leaf l) = leaf_lack l.shape l
lack (Enum l names) = value_if_missing l value.Null
lack (Set p names) = refuse code.Shape []
lack (Const c) = Ok value.Const
lack (Comp' n members) = refuse code.Shape []

-- the names of a composite's members
abbrev pub row_names : {n : _} → Row_of-Member n → List (List ℕ)
row_names end_of-Member = []
row_names (more_of-Member name offset kind rest) = name ∷ row_names rest

-- a composite by the members of an object, which have these names
abbrev pub composite_of : List (List ℕ) → (Members → Reading (List Value)) → Members → Reading Value
composite_of names by ms = do
  _ ← known names ms
  vs ← by ms
  Ok (value.Comp vs)

-- a composite: an object with these names
abbrev pub composite_in : List (List ℕ) → (Members → Reading (List Value)) → Data → Reading Value
composite_in names by d = do
  ms ← or_refuse code.Kind [] (as_object d)
  inside (codes ".") (composite_of names by ms)

unfoldable mutual
  -- the value of a kind
  pub kind_in : Kind → Data → Reading Value
  kind_in (Leaf l) d = shape_in l.shape l d
  kind_in (Enum l names) d = enum_in l names d
  kind_in (Set p names) d = set_in names d
  kind_in (Const c) d = constant_in c d
  kind_in (Comp' n members) d = composite_in (row_names members) (λ ms. row_in members ms) d

  -- the values of a composite's members, in the schema's order
  pub row_in : {n : _} → Row_of-Member n → Members → Reading (List Value)
  row_in end_of-Member ms = Ok []
  row_in (more_of-Member name offset kind rest) ms = do
    v ← inside name (there_or (lack kind) (λ d. kind_in kind d) (get_member name ms))
    vs ← row_in rest ms
    Ok (v ∷ vs)

-- the value of the kind that an object has under a name
abbrev pub value_in : List ℕ → Kind → Members → Reading Value
value_in name kind ms = inside name (there_or (lack kind) (kind_in kind) (get_member name ms))
