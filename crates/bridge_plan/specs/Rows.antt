-- A schema, a mapping, messages and fields on which the definitions are computed. Own profile.
use Rattle.std.specs.Prelude.{ℕ, Option, map, None, List, [], ◌∷◌, ℤ, pos, negsuc, codes}
use Rattle.sbe_types.specs.declared.kind.Primitive.TheVariants.{Char, I64, U64}
use Rattle.sbe_types.specs.declared.kind.Presence.{Presence}
use Rattle.sbe_types.specs.declared.kind.Presence.TheVariants.{Required, Optional}
use Rattle.sbe_types.specs.declared.kind.LeafShape.TheVariants.{RangedText}
use Rattle.sbe_types.specs.declared.kind.Leaf.{Leaf as LeafOf}
use Rattle.sbe_types.specs.declared.kind.Named.{Named}
use Rattle.sbe_types.specs.declared.kind.ConstValue.TheVariants as const
use Rattle.sbe_types.specs.declared.kind.Kind.{Kind, Leaf, Enum, Set, Const, Comp', end_of-Member, more_of-Member}
use Rattle.sbe_types.specs.declared.schema.Group.{Group'}
use Rattle.sbe_types.specs.declared.schema.Level.{Level, Level', end_of-Group, more_of-Group}
use Rattle.sbe_types.specs.declared.message.Value.{Value}
use Rattle.sbe_types.specs.declared.message.Value.TheVariants as value
use Rattle.sbe_types.specs.declared.message.GroupVal.TheVariants as groupval
use Rattle.sbe_types.specs.declared.message.Block.{Block}
use Rattle.sbe_types.specs.declared.kind.Primitive.TheVariants.{U8}
use Rattle.sbe_wire.specs.Rows.Schemas.{number, field, data_of, size16, uint8, uint16, int32, char}
use Rattle.bridge_rules.specs.Table.{every_number}
use Rattle.fix_values.specs.declared.rule.Code.{Code}
use Rattle.bridge_rules.specs.Rules.{Rule, integer, fixed_decimal, char_array, enum_code, raw_data, moment, day_count, choice_set, constant, from_1970, always}
use Rattle.bridge_rules.specs.Members.{decimal_value, two_members}
use Rattle.bridge_terms.specs.Plans.{Plan, Tree, Slot, Place, in_fields, in_data, done, single, group}
use Rattle.tagvalue_codec.specs.Fields.{Field}
use Rattle.bridge_terms.specs.Parts.{TagLists}
use Rattle.reference_graph.specs.Expansion.{Structure, ended, plain, counted}
use Rattle.bridge_rules.specs.Datatypes.{NamedCode, whole_number, decimal_number, text, raw, code_set, timestamp, calendar_day, character_set}
use Rattle.bridge_plan.specs.Mappings.{Mapping}
use Rattle.sbe_types.specs.declared.schema.Level.{out-Level}
use Rattle.bridge_plan.specs.Covers.{plan_of, inner_or, uncovered}
use Rattle.reference_graph.specs.declared.graph.Node.{Node}
use Rattle.sbe_types.specs.declared.schema.DataField.{DataField}
use Rattle.bridge_plan.specs.Mappings.{structure_for}

-- ---- the schema

abbrev int64 : Presence → LeafOf
int64 presence = number I64 presence (negsuc 9223372036854775807) (negsuc 9223372036854775806) (pos 9223372036854775807)

abbrev decimal_kind : LeafOf → ℤ → Kind
decimal_kind leaf exponent =
    Comp' (tt ∷ tt ∷ [])
    (more_of-Member (codes "mantissa") None (Leaf leaf) (more_of-Member (codes "exponent") None (Const (const.Num exponent)) end_of-Member))

abbrev text8 : LeafOf
text8 = record { prim = Char; length = 8; shape = RangedText; presence = Required; null = pos 0; low = pos 32; high = pos 126 }

abbrev named : List ℕ → ℕ → Named
named name n = record { name = name; number = pos n }

abbrev sides : List Named
sides = named (codes "Buy") 49 ∷ named (codes "Sell") 50 ∷ []

abbrev order_types : List Named
order_types = named (codes "Market") 49 ∷ named (codes "Limit") 50 ∷ []

abbrev side : Kind
side = Enum char sides

abbrev order_type : Kind
order_type = Enum char order_types

-- a message with a price
abbrev pub px : Level
px = Level' (codes "Px") 1 (codes "U3") 0 8 (field (codes "price") 44 0 (decimal_kind (int64 Required) (negsuc 1)) ∷ []) [] end_of-Group []

-- a message with data
abbrev pub rd : Level
rd = Level' (codes "Rd") 2 (codes "U1") 0 0 [] [] end_of-Group (data_of (codes "raw") 96 0 ∷ [])

-- the entries of a group with one symbol each
abbrev pub lines : Level
lines = Level' (codes "lines") 146 [] 0 8 (field (codes "sym") 55 0 (Leaf text8) ∷ []) [] end_of-Group []

-- a message with such a group
abbrev pub gr : Level
gr = Level' (codes "Gr") 3 (codes "U2") 0 0 [] (tt ∷ [])
    (more_of-Group (Group' size16 lines) end_of-Group) []

-- the entries of a group with two fields each
abbrev pub parties : Level
parties = Level' (codes "Parties") 453 [] 0 9
    (field (codes "PartyID") 448 0 (Leaf text8) ∷ field (codes "PartyRole") 452 0 (Leaf uint8) ∷ []) [] end_of-Group []

-- an order with a group of parties
abbrev pub order : Level
order = Level' (codes "Order") 4 (codes "D") 0 30
    (field (codes "ClOrdID") 11 0 (Leaf text8) ∷ field (codes "Symbol") 55 0 (Leaf text8) ∷ field (codes "Side") 54 0 side
    ∷ field (codes "OrderQty") 38 0 (decimal_kind (int32 Required) (pos 0)) ∷ field (codes "OrdType") 40 0 order_type
    ∷ field (codes "Price") 44 0 (decimal_kind (int64 Optional) (negsuc 1)) ∷ [])
    (tt ∷ [])
    (more_of-Group (Group' size16 parties) end_of-Group) []

-- a moment in milliseconds, and a day
abbrev uint64 : LeafOf
uint64 = number U64 Required (pos 18446744073709551615) (pos 0) (pos 18446744073709551614)

abbrev moment_kind : Kind
moment_kind = Comp' (tt ∷ tt ∷ [])
    (more_of-Member (codes "time") None (Leaf uint64) (more_of-Member (codes "unit") None (Const (const.Num (pos 3))) end_of-Member))

-- a message with a moment and a day
abbrev pub tm : Level
tm = Level' (codes "Tm") 1 (codes "U4") 0 10 (field (codes "at") 60 0 moment_kind ∷ field (codes "dt") 75 0 (Leaf uint16) ∷ []) [] end_of-Group []

-- a set and a constant
abbrev choices : List Named
choices = named (codes "Held") 0 ∷ named (codes "AllOrNone") 3 ∷ named (codes "Other") 5 ∷ []

-- a message with a set and a constant
abbrev pub st : Level
st = Level' (codes "St") 6 (codes "U5") 0 1
    (field (codes "inst") 18 0 (Set U8 choices) ∷ field (codes "kind") 77 0 (Const (const.Num (pos 7))) ∷ []) [] end_of-Group []

-- ---- the mapping

abbrev coded_as : List ℕ → List ℕ → NamedCode
coded_as name t = record { name = name; text = t }

-- the tags of the header, and a length field with its data field
abbrev pub lists : TagLists
lists = record { header = 8 ∷ 9 ∷ 35 ∷ 10 ∷ 49 ∷ 56 ∷ 34 ∷ 52 ∷ []; lengths = (95, 96) ∷ [] }

abbrev headed : Structure → Structure
headed rest = plain 8 (plain 9 (plain 35 (plain 49 (plain 56 (plain 34 (plain 52 rest))))))

-- a mapping of these messages
abbrev pub mapping : Mapping
mapping = record {
  lists = lists;
  datatypes = (11, text) ∷ (55, text) ∷ (448, text) ∷ (38, decimal_number) ∷ (44, decimal_number) ∷ (452, whole_number) ∷ (96, raw)
      ∷ (54, code_set (coded_as (codes "Buy") (codes "1") ∷ coded_as (codes "Sell") (codes "2") ∷ []))
      ∷ (60, timestamp) ∷ (75, calendar_day) ∷ (77, whole_number)
      ∷ (18, character_set (coded_as (codes "AllOrNone") (codes "G") ∷ coded_as (codes "Held") (codes "5") ∷ []))
      ∷ (40, code_set (coded_as (codes "Market") (codes "1") ∷ coded_as (codes "Limit") (codes "2") ∷ [])) ∷ [];
  messages = (codes "D", headed (plain 11 (counted 453 (plain 448 (plain 452 ended)) (plain 55 (plain 54 (plain 38 (plain 40 (plain 44 ended))))))))
      ∷ (codes "U1", headed (plain 95 (plain 96 ended)))
      ∷ (codes "U2", headed (counted 146 (plain 55 ended) ended))
      ∷ (codes "U3", headed (plain 44 ended))
      ∷ (codes "U4", headed (plain 60 (plain 75 ended)))
      ∷ (codes "U5", headed (plain 18 (plain 77 ended))) ∷ [];
}

-- ---- the plans

abbrev slot : ℕ → Place → Rule → Slot
slot tag place rule = record { tag = tag; place = place; rule = rule }

-- the plan of the message with a price
abbrev pub px_plan : Plan
px_plan = single (slot 44 (in_fields 0) (fixed_decimal (int64 Required) (negsuc 1))) done

-- the plan of the message with data
abbrev pub rd_plan : Plan
rd_plan = single (slot 96 (in_data 0) (raw_data uint16)) done

-- the plan of the message with a group
abbrev pub gr_plan : Plan
gr_plan = group (record { tag = 146; level = lines; place = 0; delimiter = 55; count = uint16; owned = 55 ∷ [] })
    (single (slot 55 (in_fields 0) (char_array text8)) done) done

abbrev one_or_two : List Code
one_or_two = record { number = pos 49; text = codes "1" } ∷ record { number = pos 50; text = codes "2" } ∷ []

-- the plan of the order
abbrev pub order_plan : Plan
order_plan =
    single (slot 11 (in_fields 0) (char_array text8))
    (group (record { tag = 453; level = parties; place = 0; delimiter = 448; count = uint16; owned = 448 ∷ 452 ∷ [] })
    (single (slot 448 (in_fields 0) (char_array text8)) (single (slot 452 (in_fields 1) (integer uint8)) done))
    (single (slot 55 (in_fields 1) (char_array text8))
    (single (slot 54 (in_fields 2) (enum_code char sides one_or_two))
    (single (slot 38 (in_fields 3) (fixed_decimal (int32 Required) (pos 0)))
    (single (slot 40 (in_fields 4) (enum_code char order_types one_or_two))
    (single (slot 44 (in_fields 5) (fixed_decimal (int64 Optional) (negsuc 1))) done))))))

-- the plan of the message with a moment and a day
abbrev pub tm_plan : Plan
tm_plan = single (slot 60 (in_fields 0) (moment from_1970 uint64 (always 3))) (single (slot 75 (in_fields 1) (day_count uint16)) done)

abbrev set_codes : List Code
set_codes = record { number = pos 0; text = codes "5" } ∷ record { number = pos 3; text = codes "G" } ∷ []

-- the plan of the message with a set and a constant
abbrev pub st_plan : Plan
st_plan = single (slot 18 (in_fields 0) (choice_set choices set_codes))
    (single (slot 77 (in_fields 1) (constant (integer (every_number I64)) (value.Num (pos 7)))) done)

-- ---- messages and fields

-- the values of the moment a second and a half after the beginning of 2 January 1970, and of that day
abbrev pub one_moment : Tree Value tm_plan
one_moment = (two_members (value.Num (pos 86401500)) value.Const, (value.Num (pos 1), tt))

-- the values of a set with these bits, and of the constant
abbrev pub one_set : ℕ → Tree Value st_plan
one_set n = (value.Set n, (value.Const, tt))

-- the value of a price by its mantissa
abbrev pub price : ℤ → Tree Value px_plan
price mantissa = (decimal_value (value.Num mantissa), tt)

-- the value of data that contains SOH
abbrev pub raw_bytes : Tree Value rd_plan
raw_bytes = (value.Text (97 ∷ 1 ∷ 98 ∷ []), tt)

-- an order of one party, by the number of its side
abbrev pub one_order : ℕ → Tree Value order_plan
one_order n = (
  value.Text (codes "ORD00001"),
  (
    (value.Text (codes "FIRM"), (value.Num (pos 1), tt)) ∷ [],
    (
      value.Text (codes "GEM4"),
      (
        value.Enum (pos n),
        (decimal_value (value.Num (pos 7)), (value.Enum (pos 50), (decimal_value (value.Num (pos 9950)), tt))),
      ),
    ),
  ),
)

-- the block of the order of one party, by the number of its side
abbrev pub order_block : ℕ → Block
order_block n = record {
  fields = value.Text (codes "ORD00001") ∷ value.Text (codes "GEM4") ∷ value.Enum (pos n)
      ∷ decimal_value (value.Num (pos 7)) ∷ value.Enum (pos 50) ∷ decimal_value (value.Num (pos 9950)) ∷ [];
  groups = groupval.Entries (record { fields = value.Text (codes "FIRM") ∷ value.Num (pos 1) ∷ []; groups = []; parts = [] } ∷ []) ∷ [];
  parts = [];
}

-- a field
abbrev pub tagged : ℕ → List ℕ → Field
tagged tag t = record { tag = tag; value = t }

-- the fields of that order
abbrev pub order_fields : List Field
order_fields = tagged 11 (codes "ORD00001") ∷ tagged 453 (codes "1") ∷ tagged 448 (codes "FIRM") ∷ tagged 452 (codes "1") ∷ tagged 55 (codes "GEM4")
    ∷ tagged 54 (codes "1") ∷ tagged 38 (codes "7") ∷ tagged 40 (codes "2") ∷ tagged 44 (codes "99.5") ∷ []

-- the type of one byte
abbrev pub uint8_leaf : LeafOf
uint8_leaf = uint8

-- an order whose group has a field of a tag that the mapped group lacks
abbrev pub strange : Level
strange = Level' (codes "Strange") 5 (codes "D") 0 8 (field (codes "ClOrdID") 11 0 (Leaf text8) ∷ []) (tt ∷ [])
    (more_of-Group (Group' size16 (Level' (codes "Parties") 453 [] 0 9
    (field (codes "PartyID") 448 0 (Leaf text8) ∷ field (codes "Other") 55 0 (Leaf uint8) ∷ []) [] end_of-Group [])) end_of-Group) []

-- the plan of a template
abbrev pub plan_for : Level → Plan
plan_for level = plan_of mapping (inner_or (structure_for mapping (out-Level level).semantic)) level

-- ---- templates of one part, and structures for them

-- a text of eight bytes
abbrev pub text8_kind : Kind
text8_kind = Leaf text8

-- one byte
abbrev pub byte_kind : Kind
byte_kind = Leaf uint8

-- the same mapping, with datatypes also for tags of the header, of lengths and of counts
abbrev pub wide : Mapping
wide = record mapping { datatypes = (49, text) ∷ (95, whole_number) ∷ (453, whole_number) ∷ (447, text) ∷ mapping.datatypes }

-- a template with only fields, each with its name and tag, and data
abbrev pub template : List (List ℕ × ℕ) → List DataField → Level
template named parts = Level' (codes "T") 7 (codes "D") 0 8 (map (λ (part : List ℕ × ℕ). field part.0 part.1 0 text8_kind) named) [] end_of-Group parts

-- a template of one group G with fields of one byte, by its count's tag
abbrev pub template_of_group : ℕ → List (List ℕ × ℕ) → List DataField → Level
template_of_group tag named parts =
    Level' (codes "T") 7 (codes "D") 0 0 [] (tt ∷ [])
    (more_of-Group (Group' size16 (Level' (codes "G") tag [] 0 8
    (map (λ (part : List ℕ × ℕ). field part.0 part.1 0 text8_kind) named) [] end_of-Group parts)) end_of-Group) []

-- one field x with this tag
abbrev pub x_at : ℕ → List (List ℕ × ℕ)
x_at tag = (codes "x", tag) ∷ []

-- the part of a template that isn't covered, by a structure
abbrev pub uncovered_in : Structure → Level → Option (List (List ℕ))
uncovered_in s level = uncovered wide s level

-- a component without references, and then a field
abbrev pub empty_component_first : List Node
empty_component_first = record { count = None; links = [] } ∷ []

-- a group whose structure has a tag that the template lacks
abbrev pub party_plan : Plan
party_plan = plan_of wide (counted 453 (plain 448 (plain 447 (plain 55 ended))) ended)
    (template_of_group 453 ((codes "PartyID", 448) ∷ (codes "Symbol", 55) ∷ []) [])

-- a group of one entry whose delimiter is an empty text, which gives no field
abbrev pub one_bare_entry : Tree Value gr_plan
one_bare_entry = ((value.Null, tt) ∷ [], tt)
