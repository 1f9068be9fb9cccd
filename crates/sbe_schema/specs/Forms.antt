-- The forms of a schema's attributes, and the names of its elements.
use Rattle.std.specs.Prelude.{ℕ, ◌&&◌, nat_le, nat_lt, nat_eq, Bool, if◌then◌else◌, List, codes, length, Ok}
use Rattle.std.specs.List.{before_first, after_first, position_or_len}
use Rattle.std.specs.Str.{bytes_eq}
use Rattle.serde_json.specs.Data.{Data}
use Rattle.json_elements.specs.declared.refusal.Cause.TheVariants.{BadAttribute, Limit}
use Rattle.json_elements.specs.Reading.{Reading, ◌>>=◌, refuse}
use Rattle.json_elements.specs.Forms.{text, limited}
use Rattle.sbe_types.specs.declared.kind.Order.{Order}
use Rattle.sbe_types.specs.declared.kind.Order.TheVariants.{Little, Big}
use Rattle.sbe_types.specs.declared.kind.Presence.{Presence}
use Rattle.sbe_types.specs.declared.kind.Presence.TheVariants.{Required, Optional, Constant}
use Rattle.sbe_types.specs.declared.kind.Primitive.TheVariants.{Char, I8, I16, I32, I64, U8, U16, U32, U64}
use Rattle.sbe_types.specs.declared.tree.PrimitiveType.{PrimitiveType}
use Rattle.sbe_types.specs.declared.tree.PrimitiveType.TheVariants.{Integral, Float, Double}
use Rattle.sbe_types.specs.declared.tree.ValueRef.{ValueRef}
pub use Rattle.sbe_types.specs.InForm.{is_letter, is_name_byte, is_name}
use Rattle.sbe_types.specs.declared.limits.TheConstants.{NAME_LIMIT, LENGTH_LIMIT, PLACE_LIMIT}
use Rattle.sbe_schema.specs.declared.element_name.ElementName.{ElementName}
use Rattle.sbe_schema.specs.declared.element_name.ElementName.TheVariants as element

-- ---- names

-- The name is within its limit.
abbrev pub is_short : List ℕ → Bool
is_short s = nat_le (length s) NAME_LIMIT

-- A text as a name.
abbrev pub name_in : List ℕ → Reading (List ℕ)
name_in s = if is_name s then (if is_short s then Ok s else refuse Limit) else refuse BadAttribute

-- a name; one that is only too long exceeds a limit
abbrev pub a_name : Data → Reading (List ℕ)
a_name d = do
  s ← text d
  name_in s

-- The byte is the dot between the two names of a valueRef.
abbrev pub is_dot : ℕ → Bool
is_dot c = nat_eq c 46

-- The two names of a valueRef.
abbrev pub both_names : List ℕ → List ℕ → Reading ValueRef
both_names enum_name value_name =
    if is_name enum_name && is_name value_name
    then (if is_short enum_name && is_short value_name then Ok (record { enum_name = enum_name; value_name = value_name }) else refuse Limit)
    else refuse BadAttribute

-- A text as a valueRef.
abbrev pub value_ref_in : List ℕ → Reading ValueRef
value_ref_in s =
    if nat_lt (position_or_len is_dot s) (length s) then both_names (before_first is_dot s) (after_first is_dot s)
    else refuse BadAttribute

-- the name of an enum, a dot, and the name of a valid value
abbrev pub a_value_ref : Data → Reading ValueRef
a_value_ref d = do
  s ← text d
  value_ref_in s

-- ---- words

-- A text as the name of a primitive type, float and double included.
abbrev pub primitive_in : List ℕ → Reading PrimitiveType
primitive_in s =
    if bytes_eq s (codes "char") then Ok (Integral Char)
    else if bytes_eq s (codes "int8") then Ok (Integral I8)
    else if bytes_eq s (codes "int16") then Ok (Integral I16)
    else if bytes_eq s (codes "int32") then Ok (Integral I32)
    else if bytes_eq s (codes "int64") then Ok (Integral I64)
    else if bytes_eq s (codes "uint8") then Ok (Integral U8)
    else if bytes_eq s (codes "uint16") then Ok (Integral U16)
    else if bytes_eq s (codes "uint32") then Ok (Integral U32)
    else if bytes_eq s (codes "uint64") then Ok (Integral U64)
    else if bytes_eq s (codes "float") then Ok Float
    else if bytes_eq s (codes "double") then Ok Double
    else refuse BadAttribute

-- The attribute primitiveType.
abbrev pub a_primitive : Data → Reading PrimitiveType
a_primitive d = do
  s ← text d
  primitive_in s

-- A text as a presence.
abbrev pub presence_in : List ℕ → Reading Presence
presence_in s =
    if bytes_eq s (codes "required") then Ok Required
    else if bytes_eq s (codes "optional") then Ok Optional
    else if bytes_eq s (codes "constant") then Ok Constant
    else refuse BadAttribute

-- The attribute presence.
abbrev pub a_presence : Data → Reading Presence
a_presence d = do
  s ← text d
  presence_in s

-- A text as a byte order.
abbrev pub byte_order_in : List ℕ → Reading Order
byte_order_in s =
    if bytes_eq s (codes "littleEndian") then Ok Little
    else if bytes_eq s (codes "bigEndian") then Ok Big
    else refuse BadAttribute

-- The attribute byteOrder.
abbrev pub a_byte_order : Data → Reading Order
a_byte_order d = do
  s ← text d
  byte_order_in s

-- ---- numbers with limits

-- the number of primitives of an array
abbrev pub a_length : Data → Reading ℕ
a_length = limited LENGTH_LIMIT

-- an offset or a block length
abbrev pub a_place : Data → Reading ℕ
a_place = limited PLACE_LIMIT

-- ---- elements

-- the element with this name, without prefix
abbrev pub element_of : List ℕ → ElementName
element_of name =
    if bytes_eq name (codes "messageSchema") then element.MessageSchema
    else if bytes_eq name (codes "types") then element.Types
    else if bytes_eq name (codes "type") then element.Type
    else if bytes_eq name (codes "composite") then element.Composite
    else if bytes_eq name (codes "enum") then element.Enum
    else if bytes_eq name (codes "validValue") then element.ValidValue
    else if bytes_eq name (codes "set") then element.Set
    else if bytes_eq name (codes "choice") then element.Choice
    else if bytes_eq name (codes "ref") then element.Ref
    else if bytes_eq name (codes "message") then element.Message
    else if bytes_eq name (codes "field") then element.Field
    else if bytes_eq name (codes "group") then element.Group
    else if bytes_eq name (codes "data") then element.Data
    else element.Other
