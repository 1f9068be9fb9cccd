-- Members of a composite in order on which the definitions are computed, and one change of them for each of some facts.
use Rattle.std.specs.Prelude.{ℕ, Option, Some, None, List, [], ◌∷◌, pos, negsuc, codes}
use Rattle.sbe_types.specs.declared.kind.Primitive.{Primitive}
use Rattle.sbe_types.specs.declared.kind.Primitive.TheVariants.{Char, I8, I32, U8, U16}
use Rattle.sbe_types.specs.declared.kind.Presence.{Presence}
use Rattle.sbe_types.specs.declared.kind.Presence.TheVariants.{Required, Optional, Constant}
use Rattle.sbe_types.specs.declared.kind.Leaf.{Leaf as LeafOf}
use Rattle.sbe_types.specs.declared.kind.Named.{Named}
use Rattle.sbe_types.specs.declared.kind.ConstValue.TheVariants as value
use Rattle.sbe_types.specs.declared.kind.Kind.{Kind, Leaf, Enum, Set, Const, Comp}
use Rattle.sbe_types.specs.declared.kind.Member.{Member}
use Rattle.sbe_types.specs.declared.tree.PrimitiveType.TheVariants.{Integral}
use Rattle.sbe_types.specs.declared.tree.ChoiceEl.{ChoiceEl}
use Rattle.sbe_types.specs.declared.tree.FieldEl.{FieldEl}
use Rattle.sbe_types.specs.declared.tree.MemberItem.{MemberItem}
use Rattle.sbe_types.specs.declared.tree.MemberItem as member
use Rattle.sbe_types.specs.declared.tree.TypesItem.{TypesItem}
use Rattle.sbe_types.specs.declared.tree.TypesItem.TheVariants as item
use Rattle.schema_rules.specs.Rows.Trees.{enum, valid, composite}
use Rattle.schema_rules.specs.Rows.Schemas.{leaf, int32}

-- a value or a choice
abbrev pub named : List ℕ → ℕ → Named
named name number = record { name = name; number = pos number }

-- a member of a composite
abbrev pub part : List ℕ → Option ℕ → Kind → Member
part name offset kind = record { name = name; offset = offset; kind = kind }

-- one character
abbrev pub char : LeafOf
char = leaf Char Required (pos 0) (pos 32) (pos 126)

-- an enum of characters
abbrev pub side_of : Named → Kind
side_of other = Enum char (named (codes "Buy") 49 ∷ (other ∷ []))

-- a set in one byte
abbrev pub flags_of : Named → Kind
flags_of other = Set U8 (named (codes "Late") 0 ∷ (other ∷ []))

-- the members of a decimal whose exponent is constant
abbrev pub price_parts : List Member
price_parts = part (codes "mantissa") None (Leaf int32) ∷ (part (codes "exponent") None (Const (value.Num (negsuc 3))) ∷ [])

-- three members, the last of which begins at byte 4
abbrev pub parts_with : Kind → Kind → List ℕ → List Member
parts_with side flags last = part (codes "side") None side ∷ (part (codes "flags") None flags ∷ (part last (Some 4) (Comp price_parts) ∷ []))

-- the members of the composite in order
abbrev pub order_parts : List Member
order_parts = parts_with (side_of (named (codes "Sell") 50)) (flags_of (named (codes "Big") 7)) (codes "price")

-- two values have the same number
abbrev pub number_twice : List Member
number_twice = parts_with (side_of (named (codes "Sell") 49)) (flags_of (named (codes "Big") 7)) (codes "price")

-- a choice is the ninth bit of one byte
abbrev pub bit_above : List Member
bit_above = parts_with (side_of (named (codes "Sell") 50)) (flags_of (named (codes "Big") 8)) (codes "price")

-- two members have the same name
abbrev pub name_twice : List Member
name_twice = parts_with (side_of (named (codes "Sell") 50)) (flags_of (named (codes "Big") 7)) (codes "side")

-- a null that doesn't fit two bytes
abbrev pub null_above : Kind
null_above = Leaf (leaf U16 Optional (pos 65536) (pos 0) (pos 65534))

-- ---- declared types that stand for the composite in order

-- a choice of a set
abbrev pub choice : List ℕ → List ℕ → ChoiceEl
choice name text = record { name = name; text = text }

-- a set in one byte
abbrev pub flags_type : TypesItem
flags_type =
    item.Set (record { name = codes "Flags"; encoding_type = codes "uint8"; offset = None; since_version = 0; children = choice (codes "Late") (codes "0") ∷ (choice (codes "Big") (codes "7") ∷ []) })

-- a member of a primitive type
abbrev pub simple : List ℕ → Primitive → Presence → Option (List ℕ) → MemberItem
simple name prim presence text =
    member.Type (record { name = name; primitive_type = Integral prim; length = 1; presence = Some presence; null_value = None; min_value = None; max_value = None; character_encoding = None; value_ref = None; text = text; offset = None; since_version = 0 })

-- a member whose type is declared elsewhere
abbrev pub ref : List ℕ → List ℕ → Option ℕ → MemberItem
ref name type_name offset = member.Ref (record { name = name; type_name = type_name; offset = offset; since_version = 0 })

-- an enum, a set, and composites of them
abbrev pub types : List TypesItem
types =
    enum (codes "Side") (codes "char") (valid (codes "Buy") (codes "1") ∷ (valid (codes "Sell") (codes "2") ∷ []))
    ∷ (flags_type
    ∷ (composite (codes "Price") (simple (codes "mantissa") I32 Optional None ∷ (simple (codes "exponent") I8 Constant (Some (codes "-4")) ∷ []))
    ∷ (composite (codes "Order") (ref (codes "side") (codes "Side") None ∷ (ref (codes "flags") (codes "Flags") None ∷ (ref (codes "price") (codes "Price") (Some 4) ∷ [])))
    ∷ [])))

-- a field of that composite
abbrev pub order_field : FieldEl
order_field = record { name = codes "order"; id = 1; type_name = codes "Order"; since_version = 0; presence = None; offset = None; value_ref = None }
