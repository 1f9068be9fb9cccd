-- The kind of a type where it is used: with its presence, range and null, and with every name resolved.
use Rattle.std.specs.Prelude.{ℕ, zero, suc, ◌==◌, ◌||◌, not, Bool, is_some, if◌then◌else◌, List, [], ◌∷◌, map, Option, Some, None, unwrap_or, option_map, option_and_then, ℤ, pos}
use Rattle.std.specs.Option.{option_or}
use Rattle.sbe_types.specs.declared.kind.Primitive.{Primitive}
use Rattle.sbe_types.specs.declared.kind.Primitive.TheVariants.{Char, I8, I16, I32, I64, U8, U16, U32, U64}
use Rattle.sbe_types.specs.declared.kind.Presence.{Presence}
use Rattle.sbe_types.specs.declared.kind.Presence.TheVariants.{Required, Optional, Constant}
use Rattle.sbe_types.specs.declared.kind.LeafShape.{LeafShape}
use Rattle.sbe_types.specs.declared.kind.LeafShape.TheVariants as shape
use Rattle.sbe_types.specs.declared.kind.Leaf.{Leaf as LeafOf}
use Rattle.sbe_types.specs.declared.kind.Named.{Named}
use Rattle.sbe_types.specs.declared.kind.ConstValue.{ConstValue}
use Rattle.sbe_types.specs.declared.kind.ConstValue.TheVariants as value
use Rattle.sbe_types.specs.declared.kind.Member.{Member}
use Rattle.sbe_types.specs.declared.kind.Kind.{Kind, Leaf, Enum, Set, Comp, Comp', Const}
use Rattle.sbe_types.specs.declared.tree.ValueRef.{ValueRef}
use Rattle.sbe_types.specs.declared.tree.TypeEl.{TypeEl}
use Rattle.sbe_types.specs.declared.tree.EnumEl.{EnumEl}
use Rattle.sbe_types.specs.declared.tree.SetEl.{SetEl}
use Rattle.sbe_types.specs.declared.tree.FieldEl.{FieldEl}
use Rattle.sbe_types.specs.declared.tree.ValidValueEl.{ValidValueEl}
use Rattle.sbe_types.specs.declared.tree.ChoiceEl.{ChoiceEl}
use Rattle.sbe_types.specs.declared.tree.MemberItem.{MemberItem, Row_of-MemberItem, end_of-MemberItem, more_of-MemberItem}
use Rattle.sbe_types.specs.declared.tree.MemberItem as part
use Rattle.sbe_types.specs.declared.tree.TypesItem.{TypesItem}
use Rattle.sbe_types.specs.declared.tree.TypesItem.TheVariants as item
use Rattle.sbe_types.specs.Numbers.{prim_width}
use Rattle.sbe_types.specs.Shown.{is_octets}
use Rattle.schema_rules.specs.Ranges.{numbers_of, number_in, value_number, bit_number, is_char}
use Rattle.schema_rules.specs.declared.encodings.Encoding.{Encoding}
use Rattle.schema_rules.specs.Names.{integral, simple_of, declared_as, plain_named, type_named, Referred, referred}

-- ---- where a type is used

-- what a field states besides its type: its own presence and valueRef
pub record Use : Type 0 where
  pub presence : Option Presence
  pub value_ref : Option ValueRef

-- a declared type, or a member of a composite, states nothing besides
abbrev pub as_declared : Use
as_declared = record { presence = None; value_ref = None }

-- What a field states besides its type.
abbrev pub use_of : FieldEl → Use
use_of f = record { presence = f.presence; value_ref = f.value_ref }

-- the presence that applies: the field's, else the type's, else required
abbrev pub effective : Option Presence → Option Presence → Presence
effective own of_type = unwrap_or (option_or own of_type) Required

-- ---- leaves

-- Neither a minimum nor a maximum is stated.
abbrev pub is_unstated : TypeEl → Bool
is_unstated t = not (is_some t.min_value || is_some t.max_value)

-- how an array is read: a text, octets if no range is stated, or numbers
abbrev pub array_shape : Primitive → TypeEl → LeafShape
array_shape Char t = if is_some t.character_encoding then shape.EncodedText else shape.RangedText
array_shape U8 t = if is_unstated t then shape.Octets else shape.Numbers
array_shape I8 t = shape.Numbers
array_shape I16 t = shape.Numbers
array_shape I32 t = shape.Numbers
array_shape I64 t = shape.Numbers
array_shape U16 t = shape.Numbers
array_shape U32 t = shape.Numbers
array_shape U64 t = shape.Numbers

-- How a type is read: one number, or an array.
abbrev pub shape_of : Primitive → TypeEl → LeafShape
shape_of prim t = if t.length == 1 then shape.Number else array_shape prim t

-- the least number that is admitted: the stated one, or that of the primitive
abbrev pub low_of : Primitive → TypeEl → ℤ
low_of prim t = unwrap_or t.min_value (numbers_of prim).low

-- The greatest number that is admitted.
abbrev pub high_of : Primitive → TypeEl → ℤ
high_of prim t = unwrap_or t.max_value (numbers_of prim).high

-- The number that stands for null.
abbrev pub null_of : Primitive → TypeEl → ℤ
null_of prim t = unwrap_or t.null_value (numbers_of prim).null

-- the leaf of a type; octets may be any bytes
abbrev pub leaf_of : Primitive → Presence → TypeEl → LeafOf
leaf_of prim presence t =
    record { prim = prim; length = t.length; shape = shape_of prim t; presence = presence; null = null_of prim t; low = low_of prim t; high = if is_octets (shape_of prim t) then pos 255 else high_of prim t }

-- ---- the encoding of an enum or a set

-- A type as the encoding of an enum or a set.
abbrev pub encoding_of : TypeEl → Option Encoding
encoding_of t = option_map (λ p. record { leaf = leaf_of p Required t; presence = t.presence }) (integral t.primitive_type)

-- the encoding that a name stands for: a `type` over a primitive that isn't float or double
abbrev pub encoding_named : List TypesItem → List ℕ → Option Encoding
encoding_named types name = option_and_then encoding_of (option_and_then simple_of (type_named types name))

-- The same leaf with another presence.
abbrev pub with_presence : Presence → LeafOf → LeafOf
with_presence presence l =
    record { prim = l.prim; length = l.length; shape = l.shape; presence = presence; null = l.null; low = l.low; high = l.high }

-- ---- values of enums, sets and constants

-- the value used where a rule is broken, so that there is neither a value nor a kind
abbrev pub no_value : ConstValue
no_value = value.Num (pos 0)

-- The kind used where a type is unknown.
abbrev pub unresolved : Kind
unresolved = Const no_value

-- A valid value with its number.
abbrev pub valid_value : Primitive → ValidValueEl → Named
valid_value prim v = record { name = v.name; number = unwrap_or (value_number prim v.text) (pos 0) }

-- A choice with its bit.
abbrev pub choice : Primitive → ChoiceEl → Named
choice prim c = record { name = c.name; number = unwrap_or (bit_number (prim_width prim) c.text) (pos 0) }

-- A valid value with the encoding of its enum.
abbrev pub code_over : Referred → Option Encoding → ConstValue
code_over r None = no_value
code_over r (Some e) = value.Code e.leaf.prim (valid_value e.leaf.prim r.value)

-- A valid value that was found, as a constant.
abbrev pub code_found : List TypesItem → Option Referred → ConstValue
code_found types None = no_value
code_found types (Some r) = code_over r (encoding_named types r.enum.encoding_type)

-- a constant by its valueRef: the valid value, with the encoding of its enum
abbrev pub code_of : List TypesItem → Option ValueRef → ConstValue
code_of types None = no_value
code_of types (Some ref) = code_found types (referred types ref)

-- The value of a text: the text if it is over char, else the number that it spells.
abbrev pub text_value : Primitive → Option (List ℕ) → ConstValue
text_value prim None = no_value
text_value prim (Some text) = if is_char prim then value.Text text else value.Num (unwrap_or (number_in prim text) (pos 0))

-- a constant of a `type`: by the valueRef if there is one, else by its text
abbrev pub constant_of : List TypesItem → Primitive → TypeEl → Option ValueRef → ConstValue
constant_of types prim t None = text_value prim t.text
constant_of types prim t (Some ref) = code_of types (Some ref)

-- ---- kinds

-- A type over a primitive, by the presence that applies.
abbrev pub type_over : List TypesItem → Use → TypeEl → Primitive → Presence → Kind
type_over types own t prim Constant = Const (constant_of types prim t (option_or own.value_ref t.value_ref))
type_over types own t prim Required = Leaf (leaf_of prim Required t)
type_over types own t prim Optional = Leaf (leaf_of prim Optional t)

-- A type over this primitive, if it is over one.
abbrev pub type_in : List TypesItem → Use → TypeEl → Option Primitive → Kind
type_in types own t None = unresolved
type_in types own t (Some prim) = type_over types own t prim (effective own.presence t.presence)

-- The kind of a type where it is used.
abbrev pub type_kind : List TypesItem → Use → TypeEl → Kind
type_kind types own t = type_in types own t (integral t.primitive_type)

-- An enum over an encoding, by the presence that applies.
abbrev pub enum_over : List TypesItem → Use → EnumEl → Encoding → Presence → Kind
enum_over types own e encoding Constant = Const (code_of types own.value_ref)
enum_over types own e encoding Required = Enum encoding.leaf (map (valid_value encoding.leaf.prim) e.children)
enum_over types own e encoding Optional = Enum (with_presence Optional encoding.leaf) (map (valid_value encoding.leaf.prim) e.children)

-- An enum over this encoding, if it has one.
abbrev pub enum_in : List TypesItem → Use → EnumEl → Option Encoding → Kind
enum_in types own e None = unresolved
enum_in types own e (Some encoding) = enum_over types own e encoding (effective own.presence encoding.presence)

-- an enum has the presence of its field, else of its encoding type
abbrev pub enum_kind : List TypesItem → Use → EnumEl → Kind
enum_kind types own e = enum_in types own e (encoding_named types e.encoding_type)

-- A set over this encoding, if it has one.
abbrev pub set_in : SetEl → Option Encoding → Kind
set_in s None = unresolved
set_in s (Some encoding) = Set encoding.leaf.prim (map (choice encoding.leaf.prim) s.children)

-- The kind of a set.
abbrev pub set_kind : List TypesItem → SetEl → Kind
set_kind types s = set_in s (encoding_named types s.encoding_type)

-- a member that is a leaf is optional in the composite of an optional field
abbrev pub made_optional : Kind → Kind
made_optional (Leaf l) = Leaf (with_presence Optional l)
made_optional (Enum l names) = Enum l names
made_optional (Set p names) = Set p names
made_optional (Const c) = Const c
made_optional (Comp' n row) = Comp' n row

-- The members of a composite whose field is optional: the first is optional.
abbrev pub first_optional : List Member → List Member
first_optional [] = []
first_optional (m ∷ ms) = record { name = m.name; offset = m.offset; kind = made_optional m.kind } ∷ ms

-- a composite by the presence of its field; the null of its first member means that it is empty
abbrev pub composite_with : Option Presence → List Member → Kind
composite_with None members = Comp members
composite_with (Some Required) members = Comp members
composite_with (Some Optional) members = Comp (first_optional members)
composite_with (Some Constant) members = Comp members

-- The name of a member.
abbrev pub member_name : MemberItem → List ℕ
member_name (part.Type t) = t.name
member_name (part.Enum e) = e.name
member_name (part.Set s) = s.name
member_name (part.Ref r) = r.name
member_name (part.Composite' name offset since n row) = name

-- The offset that a member states.
abbrev pub member_offset : MemberItem → Option ℕ
member_offset (part.Type t) = t.offset
member_offset (part.Enum e) = e.offset
member_offset (part.Set s) = s.offset
member_offset (part.Ref r) = r.offset
member_offset (part.Composite' name offset since n row) = offset

abbrev mutual
  -- the kind of a member, given the kinds of names
  pub member_kind : List TypesItem → (List ℕ → Kind) → MemberItem → Kind
  member_kind types kinds (part.Type t) = type_kind types as_declared t
  member_kind types kinds (part.Enum e) = enum_kind types as_declared e
  member_kind types kinds (part.Set s) = set_kind types s
  member_kind types kinds (part.Ref r) = kinds r.type_name
  member_kind types kinds (part.Composite' name offset since n row) = Comp (row_members types kinds row)

  -- Members with their kinds.
  pub row_members : List TypesItem → (List ℕ → Kind) → {n : _} → Row_of-MemberItem n → List Member
  row_members types kinds end_of-MemberItem = []
  row_members types kinds (more_of-MemberItem m rest) =
      record { name = member_name m; offset = member_offset m; kind = member_kind types kinds m } ∷ row_members types kinds rest

-- The same over a list of members.
abbrev pub members_of : List TypesItem → (List ℕ → Kind) → List MemberItem → List Member
members_of types kinds = map (λ m. record { name = member_name m; offset = member_offset m; kind = member_kind types kinds m })

-- The kind of a declared type, given the kinds of names.
abbrev pub item_kind : List TypesItem → (List ℕ → Kind) → Use → TypesItem → Kind
item_kind types kinds own (item.Type t) = type_kind types own t
item_kind types kinds own (item.Enum e) = enum_kind types own e
item_kind types kinds own (item.Set s) = set_kind types s
item_kind types kinds own (item.Composite c) = composite_with own.presence (members_of types kinds c.children)

-- The kind of a type that was found.
abbrev pub found_kind : List TypesItem → (List ℕ → Kind) → Use → Option TypesItem → Kind
found_kind types kinds own None = unresolved
found_kind types kinds own (Some t) = item_kind types kinds own t

-- the kind of a primitive by its name
abbrev pub plain_kind : List TypesItem → Option TypesItem → Kind
plain_kind types None = unresolved
plain_kind types (Some (item.Type t)) = type_kind types as_declared t
plain_kind types (Some (item.Composite c)) = unresolved
plain_kind types (Some (item.Enum e)) = unresolved
plain_kind types (Some (item.Set s)) = unresolved

-- The kind of a declared type, if there is one, else of the primitive of that name.
abbrev pub kind_or_plain : List TypesItem → Option Kind → List ℕ → Kind
kind_or_plain types (Some kind) name = kind
kind_or_plain types None name = plain_kind types (plain_named name)

-- the kind that a name stands for, through at most n names of declared types
abbrev pub kind_through : ℕ → List TypesItem → List ℕ → Kind
kind_through zero types name = kind_or_plain types (option_map (λ t. unresolved) (declared_as types name)) name
kind_through (suc n) types name = kind_or_plain types (option_map (item_kind types (kind_through n types) as_declared) (declared_as types name)) name

-- the kind of a member whose type has this name. At most four composites may be nested, so three names of composites
-- and one of a type reach every member of the outermost; anything deeper is refused before its kind is needed
unfoldable pub kind_named : List TypesItem → List ℕ → Kind
kind_named types name = kind_through 4 types name

-- The kind of a field.
abbrev pub field_kind : List TypesItem → FieldEl → Kind
field_kind types f = found_kind types (kind_named types) (use_of f) (type_named types f.type_name)

-- the members of the composite that a name stands for; anything but a composite has none
abbrev pub found_members : List TypesItem → Option TypesItem → List Member
found_members types None = []
found_members types (Some (item.Type t)) = []
found_members types (Some (item.Enum e)) = []
found_members types (Some (item.Set s)) = []
found_members types (Some (item.Composite c)) = members_of types (kind_named types) c.children

-- The members of the composite of that name.
abbrev pub members_named : List TypesItem → List ℕ → List Member
members_named types name = found_members types (type_named types name)
