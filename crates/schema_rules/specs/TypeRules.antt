-- The rules for a `type`, an enum and a set, whether declared or inside a composite.
use Rattle.std.specs.Prelude.{ℕ, ◌==◌, ◌&&◌, ◌||◌, not, int_le, Bool, true, false, is_some, is_none, List, [], ◌∷◌, ◌++◌, map, length, codes, Option, Some, None, option_and_then, ℤ}
use Rattle.std.specs.Option.{option_map_or}
use Rattle.std.specs.List.{list_any}
use Rattle.std.specs.Ordering.{int_eq}
use Rattle.std.specs.Str.{bytes_eq}
use Rattle.sbe_types.specs.declared.kind.Primitive.{Primitive}
use Rattle.sbe_types.specs.declared.kind.Primitive.TheVariants.{Char, I8, I16, I32, I64, U8, U16, U32, U64}
use Rattle.sbe_types.specs.declared.kind.Presence.{Presence}
use Rattle.sbe_types.specs.declared.kind.Presence.TheVariants.{Required, Optional, Constant}
use Rattle.sbe_types.specs.declared.kind.Named.{Named}
use Rattle.sbe_types.specs.declared.tree.ValueRef.{ValueRef}
use Rattle.sbe_types.specs.declared.tree.TypeEl.{TypeEl}
use Rattle.sbe_types.specs.declared.tree.EnumEl.{EnumEl}
use Rattle.sbe_types.specs.declared.tree.SetEl.{SetEl}
use Rattle.sbe_types.specs.declared.tree.ValidValueEl.{ValidValueEl}
use Rattle.sbe_types.specs.declared.tree.TypesItem.{TypesItem}
use Rattle.sbe_types.specs.Numbers.{prim_width}
use Rattle.schema_rules.specs.declared.codes.CCode.TheVariants as rule
use Rattle.schema_rules.specs.Judging.{Rules}
use Rattle.schema_rules.specs.Ranges.{is_number_of, number_in, value_number, bit_number, is_char}
use Rattle.schema_rules.specs.Names.{is_among, integral, is_fraction, names_fraction, type_named, Referred, referred}
use Rattle.schema_rules.specs.declared.encodings.Encoding.{Encoding}
use Rattle.schema_rules.specs.Kinds.{encoding_named, effective, low_of, high_of, valid_value, choice}
use Rattle.schema_rules.specs.Facts.{is_empty_type}

-- ---- C02, for a valueRef

-- a valueRef names no valid value
abbrev pub refers_to_none : List TypesItem → Option ValueRef → Bool
refers_to_none types None = false
refers_to_none types (Some ref) = is_none (referred types ref)

-- ---- C05, for a `type`

-- it has length 0, and isn't the member `varData` of a composite
abbrev pub is_empty_elsewhere : Bool → TypeEl → Bool
is_empty_elsewhere is_member t = is_empty_type t && not (is_member && bytes_eq t.name (codes "varData"))

-- ---- C06, for a `type`

-- a stated number isn't one of the primitive
abbrev pub is_out : Primitive → Option ℤ → Bool
is_out prim None = false
is_out prim (Some n) = not (is_number_of prim n)

-- the text of a constant isn't a value; over char every text is one
abbrev pub is_bad_text : Primitive → Option (List ℕ) → Bool
is_bad_text prim None = false
is_bad_text prim (Some text) = not (is_char prim) && is_none (number_in prim text)

-- The number of a valid value.
abbrev pub referred_number : List TypesItem → Referred → Option ℤ
referred_number types r = option_and_then (λ e. value_number e.leaf.prim r.value.text) (encoding_named types r.enum.encoding_type)

-- the number of the valid value that a valueRef names isn't one of the primitive
abbrev pub refers_outside : List TypesItem → Primitive → Option ValueRef → Bool
refers_outside types prim None = false
refers_outside types prim (Some ref) = not (option_map_or (is_number_of prim) (option_and_then (referred_number types) (referred types ref)) false)

-- The presence is constant.
abbrev pub is_constant : Presence → Bool
is_constant Required = false
is_constant Optional = false
is_constant Constant = true

-- a null, minimum, maximum, constant text or number of a valueRef isn't a value, or the minimum is above the maximum
abbrev pub has_bad_number_over : List TypesItem → TypeEl → Primitive → Bool
has_bad_number_over types t prim =
    is_out prim t.null_value || (is_out prim t.min_value || (is_out prim t.max_value
    || (not (int_le (low_of prim t) (high_of prim t))
    || ((is_constant (effective None t.presence) && is_bad_text prim t.text)
    || refers_outside types prim t.value_ref))))

-- A number or text of a type isn't one of its values.
abbrev pub has_bad_number : List TypesItem → TypeEl → Bool
has_bad_number types t = option_map_or (has_bad_number_over types t) (integral t.primitive_type) false

-- ---- C19, for a `type`

-- a constant without a value or with two, or a valueRef of something that isn't constant
abbrev pub is_bad_constant : Presence → Option (List ℕ) → Option ValueRef → Bool
is_bad_constant Constant text ref = (is_some text && is_some ref) || (is_none text && is_none ref)
is_bad_constant Required text ref = is_some ref
is_bad_constant Optional text ref = is_some ref

-- ---- C05, C06 and C07, for an enum or a set

-- The primitives that an enum may be over.
abbrev pub is_enum_primitive : Primitive → Bool
is_enum_primitive Char = true
is_enum_primitive U8 = true
is_enum_primitive U16 = true
is_enum_primitive U32 = false
is_enum_primitive U64 = false
is_enum_primitive I8 = false
is_enum_primitive I16 = false
is_enum_primitive I32 = false
is_enum_primitive I64 = false

-- The primitives that a set may be over.
abbrev pub is_set_primitive : Primitive → Bool
is_set_primitive Char = false
is_set_primitive U8 = true
is_set_primitive U16 = true
is_set_primitive U32 = true
is_set_primitive U64 = true
is_set_primitive I8 = false
is_set_primitive I16 = false
is_set_primitive I32 = false
is_set_primitive I64 = false

-- the encoding is one number of an allowed primitive
abbrev pub is_encoding : (Primitive → Bool) → Option Encoding → Bool
is_encoding allowed None = false
is_encoding allowed (Some e) = allowed e.leaf.prim && e.leaf.length == 1

-- a valid value isn't a character or a number of the encoding
abbrev pub has_bad_value : Option Encoding → List ValidValueEl → Bool
has_bad_value None values = false
has_bad_value (Some e) values = list_any (λ v. is_none (value_number e.leaf.prim v.text)) values

-- The bit of a choice isn't a bit of the encoding.
abbrev pub has_bad_bit : Option Encoding → SetEl → Bool
has_bad_bit None s = false
has_bad_bit (Some e) s = list_any (λ c. is_none (bit_number (prim_width e.leaf.prim) c.text)) s.children

-- a name occurs earlier in the same list
abbrev pub has_name_twice : List (List ℕ) → List Named → Bool
has_name_twice earlier [] = false
has_name_twice earlier (v ∷ vs) = is_among earlier v.name || has_name_twice (earlier ++ v.name ∷ []) vs

-- a number or bit occurs earlier in the same list
abbrev pub has_number_twice : List ℤ → List Named → Bool
has_number_twice earlier [] = false
has_number_twice earlier (v ∷ vs) = list_any (int_eq v.number) earlier || has_number_twice (earlier ++ v.number ∷ []) vs

-- A name or a number occurs twice.
abbrev pub stands_twice : List Named → Bool
stands_twice values = has_name_twice [] values || has_number_twice [] values

-- A name or a number of an enum occurs twice.
abbrev pub has_value_twice : Option Encoding → EnumEl → Bool
has_value_twice None e = false
has_value_twice (Some encoding) e = stands_twice (map (valid_value encoding.leaf.prim) e.children)

-- A name or a bit of a set occurs twice.
abbrev pub has_bit_twice : Option Encoding → SetEl → Bool
has_bit_twice None s = false
has_bit_twice (Some encoding) s = stands_twice (map (choice encoding.leaf.prim) s.children)

-- An enum without valid values.
abbrev pub has_no_value : EnumEl → Bool
has_no_value e = length e.children == 0

-- ---- the rules in number order

-- The rules for a type, except the last.
abbrev pub type_rules : List TypesItem → Bool → TypeEl → Rules
type_rules types is_member t =
    (rule.UnknownType, refers_to_none types t.value_ref)
    ∷ ((rule.Float, is_fraction t.primitive_type)
    ∷ ((rule.BadEncoding, is_empty_elsewhere is_member t)
    ∷ ((rule.BadNumber, has_bad_number types t)
    ∷ [])))

-- the last rule for a type
abbrev pub type_constant_rules : TypeEl → Rules
type_constant_rules t = (rule.Presence, is_bad_constant (effective None t.presence) t.text t.value_ref) ∷ []

-- The rules for an enum.
abbrev pub enum_rules : List TypesItem → EnumEl → Rules
enum_rules types e =
    (rule.UnknownType, is_none (type_named types e.encoding_type))
    ∷ ((rule.Float, names_fraction types e.encoding_type)
    ∷ ((rule.BadEncoding, not (is_encoding is_enum_primitive (encoding_named types e.encoding_type)) || has_no_value e)
    ∷ ((rule.BadNumber, has_bad_value (encoding_named types e.encoding_type) e.children)
    ∷ ((rule.DuplicateValue, has_value_twice (encoding_named types e.encoding_type) e)
    ∷ []))))

-- The rules for a set.
abbrev pub set_rules : List TypesItem → SetEl → Rules
set_rules types s =
    (rule.UnknownType, is_none (type_named types s.encoding_type))
    ∷ ((rule.Float, names_fraction types s.encoding_type)
    ∷ ((rule.BadEncoding, not (is_encoding is_set_primitive (encoding_named types s.encoding_type)))
    ∷ ((rule.BadNumber, has_bad_bit (encoding_named types s.encoding_type) s)
    ∷ ((rule.DuplicateValue, has_bit_twice (encoding_named types s.encoding_type) s)
    ∷ []))))
