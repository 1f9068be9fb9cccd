-- What the names of types stand for, and what a valueRef refers to.
use Rattle.std.specs.Prelude.{ℕ, ◌+◌, ◌&&◌, ◌||◌, Bool, true, false, is_none, if◌then◌else◌, List, [], ◌∷◌, map, codes, Option, Some, None, slice_get, option_map, option_and_then, find, flat_map}
use Rattle.std.specs.Option.{option_or}
use Rattle.std.specs.List.{list_any}
use Rattle.std.specs.Str.{bytes_eq}
use Rattle.sbe_types.specs.declared.kind.Primitive.{Primitive}
use Rattle.sbe_types.specs.declared.kind.Primitive.TheVariants.{Char, I8, I16, I32, I64, U8, U16, U32, U64}
use Rattle.sbe_types.specs.declared.tree.PrimitiveType.{PrimitiveType}
use Rattle.sbe_types.specs.declared.tree.PrimitiveType.TheVariants.{Integral, Float, Double}
use Rattle.sbe_types.specs.declared.tree.ValueRef.{ValueRef}
use Rattle.sbe_types.specs.declared.tree.Schema.{Schema}
use Rattle.sbe_types.specs.declared.tree.SchemaItem.{SchemaItem}
use Rattle.sbe_types.specs.declared.tree.SchemaItem.TheVariants as child
use Rattle.sbe_types.specs.declared.tree.MessageEl.{MessageEl}
use Rattle.sbe_types.specs.declared.tree.TypeEl.{TypeEl}
use Rattle.sbe_types.specs.declared.tree.EnumEl.{EnumEl}
use Rattle.sbe_types.specs.declared.tree.ValidValueEl.{ValidValueEl}
use Rattle.sbe_types.specs.declared.tree.TypesItem.{TypesItem}
use Rattle.sbe_types.specs.declared.tree.TypesItem.TheVariants as item

-- ---- the declared types and the messages of a schema, in its order

-- The types that a child of the schema declares.
abbrev pub types_in : SchemaItem → List TypesItem
types_in (child.Types el) = el.children
types_in (child.Message m) = []

-- All declared types, over all `types` elements.
abbrev pub declared_types : Schema → List TypesItem
declared_types schema = flat_map types_in schema.children

-- The message that a child of the schema is, if it is one.
abbrev pub messages_in : SchemaItem → List MessageEl
messages_in (child.Types el) = []
messages_in (child.Message m) = m ∷ []

-- All messages.
abbrev pub messages_of : Schema → List MessageEl
messages_of schema = flat_map messages_in schema.children

-- ---- names of types

-- The name of a declared type.
abbrev pub name_of : TypesItem → List ℕ
name_of (item.Type t) = t.name
name_of (item.Composite c) = c.name
name_of (item.Enum e) = e.name
name_of (item.Set s) = s.name

-- the name is one of these
abbrev pub is_among : List (List ℕ) → List ℕ → Bool
is_among names name = list_any (bytes_eq name) names

-- The index of the first type of that name, counted from i.
abbrev pub place_from : ℕ → List ℕ → List TypesItem → Option ℕ
place_from i name [] = None
place_from i name (t ∷ ts) = if bytes_eq name (name_of t) then Some i else place_from (i + 1) name ts

-- the index of the declared type of that name; the first if there are two
abbrev pub place_of : List ℕ → List TypesItem → Option ℕ
place_of name types = place_from 0 name types

-- The declared type of that name, if there is one.
abbrev pub declared_as : List TypesItem → List ℕ → Option TypesItem
declared_as types name = option_and_then (slice_get types) (place_of name types)

-- the words for primitives (SBE 1.0, "Encoding: primitive data types")
abbrev pub primitive_words : List (List ℕ × PrimitiveType)
primitive_words =
    (codes "char", Integral Char) ∷ ((codes "int8", Integral I8) ∷ ((codes "int16", Integral I16) ∷ ((codes "int32", Integral I32)
    ∷ ((codes "int64", Integral I64) ∷ ((codes "uint8", Integral U8) ∷ ((codes "uint16", Integral U16) ∷ ((codes "uint32", Integral U32)
    ∷ ((codes "uint64", Integral U64) ∷ ((codes "float", Float) ∷ ((codes "double", Double) ∷ []))))))))))

-- the type that the name of a primitive stands for if no type of that name is declared
abbrev pub plain_type : List ℕ → PrimitiveType → TypeEl
plain_type name primitive =
    record { name = name; primitive_type = primitive; length = 1; presence = None; null_value = None; min_value = None; max_value = None; character_encoding = None; value_ref = None; text = None; offset = None; since_version = 0 }

-- The primitives as types of length 1.
abbrev pub plain_types : List TypesItem
plain_types = map (λ w. item.Type (plain_type w.0 w.1)) primitive_words

-- The primitive of that name, if there is one.
abbrev pub plain_named : List ℕ → Option TypesItem
plain_named name = find (λ t. bytes_eq name (name_of t)) plain_types

-- what a name of a type stands for: the first declared type of that name, else a primitive
abbrev pub type_named : List TypesItem → List ℕ → Option TypesItem
type_named types name = option_or (declared_as types name) (plain_named name)

-- ---- types of one kind

-- Float or double.
abbrev pub is_fraction : PrimitiveType → Bool
is_fraction (Integral p) = false
is_fraction Float = true
is_fraction Double = true

-- The character or integer type that a primitive type is, if it is one.
abbrev pub integral : PrimitiveType → Option Primitive
integral (Integral p) = Some p
integral Float = None
integral Double = None

-- the name is float or double, and no type of that name is declared
abbrev pub names_fraction : List TypesItem → List ℕ → Bool
names_fraction types name =
    is_none (declared_as types name) && (bytes_eq name (codes "float") || bytes_eq name (codes "double"))

-- The type that isn't a composite, enum or set, if it is one.
abbrev pub simple_of : TypesItem → Option TypeEl
simple_of (item.Type t) = Some t
simple_of (item.Composite c) = None
simple_of (item.Enum e) = None
simple_of (item.Set s) = None

-- The enum that a type is, if it is one.
abbrev pub enum_of : TypesItem → Option EnumEl
enum_of (item.Type t) = None
enum_of (item.Composite c) = None
enum_of (item.Enum e) = Some e
enum_of (item.Set s) = None

-- ---- valueRef

-- a valid value and its enum
pub record Referred : Type 0 where
  pub enum : EnumEl
  pub value : ValidValueEl

-- The valid value of that name and its enum.
abbrev pub referred_in : List ℕ → EnumEl → Option Referred
referred_in name e = option_map (λ v. record { enum = e; value = v }) (find (λ v. bytes_eq name v.name) e.children)

-- the valid value that a valueRef names
abbrev pub referred : List TypesItem → ValueRef → Option Referred
referred types ref = option_and_then (referred_in ref.value_name) (option_and_then enum_of (type_named types ref.enum_name))
