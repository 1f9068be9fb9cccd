-- Schema trees on which the rules are computed: one in order, and one change of it for each rule.
use Rattle.std.specs.Prelude.{ℕ, Option, Some, None, List, [], ◌∷◌, ◌++◌, pos, codes}
use Rattle.sbe_types.specs.declared.kind.Order.TheVariants.{Little}
use Rattle.sbe_types.specs.declared.kind.Primitive.{Primitive}
use Rattle.sbe_types.specs.declared.kind.Primitive.TheVariants.{I8, U8, U16}
use Rattle.sbe_types.specs.declared.kind.Presence.{Presence}
use Rattle.sbe_types.specs.declared.kind.Presence.TheVariants.{Optional, Constant}
use Rattle.sbe_types.specs.declared.tree.PrimitiveType.TheVariants.{Integral}
use Rattle.sbe_types.specs.declared.tree.Schema.{Schema}
use Rattle.sbe_types.specs.declared.tree.SchemaItem.{SchemaItem}
use Rattle.sbe_types.specs.declared.tree.SchemaItem.TheVariants as child
use Rattle.sbe_types.specs.declared.tree.TypeEl.{TypeEl}
use Rattle.sbe_types.specs.declared.tree.ValidValueEl.{ValidValueEl}
use Rattle.sbe_types.specs.declared.tree.MemberItem.{MemberItem}
use Rattle.sbe_types.specs.declared.tree.MemberItem as member
use Rattle.sbe_types.specs.declared.tree.TypesItem.{TypesItem}
use Rattle.sbe_types.specs.declared.tree.TypesItem.TheVariants as item
use Rattle.sbe_types.specs.declared.tree.PartItem.{PartItem, Row_of-PartItem, end_of-PartItem, more_of-PartItem}
use Rattle.sbe_types.specs.declared.tree.PartItem as part
use Rattle.sbe_types.specs.declared.tree.MessageEl.{MessageEl}

-- ---- elements

-- A type with this length and offset.
abbrev pub simple : List ℕ → Primitive → ℕ → Option ℕ → TypeEl
simple name prim length offset =
    record { name = name; primitive_type = Integral prim; length = length; presence = None; null_value = None; min_value = None; max_value = None; character_encoding = None; value_ref = None; text = None; offset = offset; since_version = 0 }

-- A member that is one number.
abbrev pub number : List ℕ → Primitive → MemberItem
number name prim = member.Type (simple name prim 1 None)

-- A declared composite.
abbrev pub composite : List ℕ → List MemberItem → TypesItem
composite name members = item.Composite (record { name = name; offset = None; since_version = 0; children = members })

-- A valid value.
abbrev pub valid : List ℕ → List ℕ → ValidValueEl
valid name text = record { name = name; text = text }

-- A declared enum.
abbrev pub enum : List ℕ → List ℕ → List ValidValueEl → TypesItem
enum name encoding values =
    item.Enum (record { name = name; encoding_type = encoding; offset = None; since_version = 0; children = values })

-- A field with a presence and an offset.
abbrev pub field_with : List ℕ → ℕ → List ℕ → Option Presence → Option ℕ → PartItem
field_with name id type_name presence offset =
    part.Field (record { name = name; id = id; type_name = type_name; since_version = 0; presence = presence; offset = offset; value_ref = None })

-- A field that states neither presence nor offset.
abbrev pub field : List ℕ → ℕ → List ℕ → PartItem
field name id type_name = field_with name id type_name None None

-- A data part.
abbrev pub data_of : List ℕ → ℕ → List ℕ → PartItem
data_of name id type_name = part.Data (record { name = name; id = id; type_name = type_name; since_version = 0 })

-- A message with a stated block length.
abbrev pub message_with : List ℕ → ℕ → Option ℕ → List PartItem → MessageEl
message_with name id stated parts =
    record { name = name; id = id; semantic_type = []; since_version = 0; block_length = stated; children = parts }

-- A message without a stated block length.
abbrev pub message : List ℕ → ℕ → List PartItem → MessageEl
message name id parts = message_with name id None parts

-- ---- the schema in order

-- A header whose last member has this name.
abbrev pub header_as : List ℕ → TypesItem
header_as last =
    composite (codes "messageHeader")
    (number (codes "blockLength") U16 ∷ (number (codes "templateId") U16 ∷ (number (codes "schemaId") U16 ∷ (number last U16 ∷ []))))

-- The message header.
abbrev pub header : TypesItem
header = header_as (codes "version")

-- A dimension of two uint16.
abbrev pub groupSize : TypesItem
groupSize = composite (codes "groupSizeEncoding") (number (codes "blockLength") U16 ∷ (number (codes "numInGroup") U16 ∷ []))

-- A dimension whose count is a uint8 with padding before it.
abbrev pub groupSize8 : TypesItem
groupSize8 =
    composite (codes "groupSize8") (number (codes "blockLength") U16 ∷ (member.Type (simple (codes "numInGroup") U8 1 (Some 7)) ∷ []))

-- The type of a data part with a uint16 as length.
abbrev pub varData16 : TypesItem
varData16 = composite (codes "varData16") (number (codes "length") U16 ∷ (member.Type (simple (codes "varData") U8 0 None) ∷ []))

-- An int8 that is optional, with a null of its own.
abbrev pub nullable : TypesItem
nullable =
    item.Type (record { name = codes "nullable"; primitive_type = Integral I8; length = 1; presence = Some Optional; null_value = Some (pos 127); min_value = None; max_value = None; character_encoding = None; value_ref = None; text = None; offset = None; since_version = 0 })

-- The declared types.
abbrev pub types : List TypesItem
types = header ∷ (groupSize ∷ (groupSize8 ∷ (varData16 ∷ (nullable ∷ []))))

-- The second field of Ping, an optional int32.
abbrev pub optional_b : PartItem
optional_b = field_with (codes "b") 1002 (codes "int32") (Some Optional) None

-- Ping with these parts.
abbrev pub ping_with : List PartItem → MessageEl
ping_with parts = message (codes "Ping") 1 parts

-- A message of two fields.
abbrev pub ping : MessageEl
ping = ping_with (field (codes "a") 1001 (codes "uint16") ∷ (optional_b ∷ []))

-- A message of one field that can be null.
abbrev pub nul : MessageEl
nul = message (codes "Nul") 2 (field (codes "n") 1003 (codes "nullable") ∷ [])

-- A group without parts.
abbrev pub group0 : List ℕ → ℕ → List ℕ → PartItem
group0 name id dimension = part.Group' name id dimension 0 None [] end_of-PartItem

-- A group of one part.
abbrev pub group1 : List ℕ → ℕ → List ℕ → PartItem → PartItem
group1 name id dimension p = part.Group' name id dimension 0 None (tt ∷ []) (more_of-PartItem p end_of-PartItem)

-- A group of three parts.
abbrev pub group3 : List ℕ → ℕ → List ℕ → PartItem → PartItem → PartItem → PartItem
group3 name id dimension p q r =
    part.Group' name id dimension 0 None (tt ∷ (tt ∷ (tt ∷ []))) (more_of-PartItem p (more_of-PartItem q (more_of-PartItem r end_of-PartItem)))

-- A field of one byte.
abbrev pub x : PartItem
x = field (codes "x") 1005 (codes "uint8")

-- A message of one group.
abbrev pub grp_with : PartItem → MessageEl
grp_with g = message (codes "Grp") 4 (g ∷ [])

-- A message of one group of one field.
abbrev pub grp : MessageEl
grp = grp_with (group1 (codes "g") 2001 (codes "groupSize8") x)

-- A field of one byte.
abbrev pub q : PartItem
q = field (codes "q") 1006 (codes "uint8")

-- A group of one field.
abbrev pub subs : PartItem
subs = group1 (codes "subs") 2003 (codes "groupSizeEncoding") (field (codes "s") 1007 (codes "uint8"))

-- A data part.
abbrev pub note : PartItem
note = data_of (codes "note") 2004 (codes "varData16")

-- A message with a group of three parts.
abbrev pub nest_with : PartItem → PartItem → PartItem → MessageEl
nest_with p q r = message (codes "Nest") 5 (group3 (codes "legs") 2002 (codes "groupSizeEncoding") p q r ∷ [])

-- A message with a group of a field, a group and a data part.
abbrev pub nest : MessageEl
nest = nest_with q subs note

-- A schema of types and messages.
abbrev pub schema_of : List TypesItem → List SchemaItem → Schema
schema_of types messages =
    record { id = 7; version = 0; «package» = codes "demo"; byte_order = Little; header_type = codes "messageHeader"; children = child.Types (record { children = types }) ∷ messages }

-- A schema that breaks no rule.
abbrev pub in_order : Schema
in_order = schema_of types (child.Message ping ∷ (child.Message nul ∷ (child.Message grp ∷ (child.Message nest ∷ []))))

-- The schema in order with only this message.
abbrev pub with_message : MessageEl → Schema
with_message m = schema_of types (child.Message m ∷ [])

-- The schema in order with one more type in front, and without messages.
abbrev pub with_first_type : TypesItem → Schema
with_first_type t = schema_of (t ∷ types) []

-- ---- one change for each rule

-- Two types of the same name.
abbrev pub declared_twice : Schema
declared_twice = schema_of (types ++ header ∷ []) []

-- Ping with this part as its field a.
abbrev pub ping_a : PartItem → Schema
ping_a a = with_message (ping_with (a ∷ (optional_b ∷ [])))

-- A field of a type that is not declared.
abbrev pub unknown_type : Schema
unknown_type = ping_a (field (codes "a") 1001 (codes "nope"))

-- A field of type double.
abbrev pub double_field : Schema
double_field = ping_a (field (codes "a") 1001 (codes "double"))

-- a composite that contains itself
abbrev pub endless : Schema
endless = with_first_type (composite (codes "Loop") (member.Ref (record { name = codes "again"; type_name = codes "Loop"; offset = None; since_version = 0 }) ∷ []))

-- An enum over a uint32.
abbrev pub wide_enum : Schema
wide_enum = with_first_type (enum (codes "E") (codes "uint32") (valid (codes "A") (codes "1") ∷ []))

-- A set over a uint8 whose choice is bit 8.
abbrev pub bit_8_of_8 : Schema
bit_8_of_8 = with_first_type (item.Set (record { name = codes "W"; encoding_type = codes "uint8"; offset = None; since_version = 0; children = record { name = codes "A"; text = codes "8" } ∷ [] }))

-- An enum with two values of the same name.
abbrev pub value_twice : Schema
value_twice = with_first_type (enum (codes "E") (codes "uint8") (valid (codes "A") (codes "1") ∷ (valid (codes "A") (codes "2") ∷ [])))

-- The first field of Ping.
abbrev pub a : PartItem
a = field (codes "a") 1001 (codes "uint16")

-- A field that begins inside the one before it.
abbrev pub overlapping : Schema
overlapping = with_message (ping_with (a ∷ (field_with (codes "b") 1002 (codes "int32") (Some Optional) (Some 1) ∷ [])))

-- A block length below the end of the fields.
abbrev pub short_block : Schema
short_block = with_message (message_with (codes "Ping") 1 (Some 5) (a ∷ (optional_b ∷ [])))

-- A header without version.
abbrev pub header_without_version : Schema
header_without_version =
    schema_of (composite (codes "messageHeader") (number (codes "blockLength") U16 ∷ (number (codes "templateId") U16 ∷ (number (codes "schemaId") U16 ∷ []))) ∷ []) []

-- A group whose dimension is the header.
abbrev pub header_as_dimension : Schema
header_as_dimension = with_message (grp_with (group1 (codes "g") 2001 (codes "messageHeader") x))

-- A data part whose type is a number.
abbrev pub number_as_data : Schema
number_as_data = with_message (nest_with q subs (data_of (codes "note") 2004 (codes "uint16")))

-- Two fields of the same name.
abbrev pub named_twice : Schema
named_twice = with_message (ping_with (a ∷ (field (codes "a") 1002 (codes "int32") ∷ [])))

-- A field after a group.
abbrev pub field_behind_group : Schema
field_behind_group = with_message (nest_with subs q note)

-- A field from a later version than the schema's.
abbrev pub later_than_schema : Schema
later_than_schema = with_message (ping_with (a ∷ (part.Field (record { name = codes "b"; id = 1002; type_name = codes "int32"; since_version = 1; presence = None; offset = None; value_ref = None }) ∷ [])))

-- A group whose entries have no bytes.
abbrev pub empty_entries : Schema
empty_entries = with_message (grp_with (group0 (codes "g") 2001 (codes "groupSize8")))

-- a group of the field x and the group p
abbrev pub around : List ℕ → PartItem → PartItem
around name p = part.Group' name 1 (codes "groupSizeEncoding") 0 None (tt ∷ (tt ∷ [])) (more_of-PartItem x (more_of-PartItem p end_of-PartItem))

-- Seven nested groups.
abbrev pub seven_groups : Schema
seven_groups =
    with_message (message (codes "Dp") 7 (around (codes "g1") (around (codes "g2") (around (codes "g3") (around (codes "g4") (around (codes "g5")
    (around (codes "g6") (group1 (codes "g7") 1 (codes "groupSizeEncoding") x)))))) ∷ []))

-- A message id that doesn't fit a uint16.
abbrev pub id_of_three_bytes : Schema
id_of_three_bytes = with_message (message (codes "Ping") 70000 (a ∷ []))

-- A constant field without a value.
abbrev pub constant_without_value : Schema
constant_without_value = ping_a (field_with (codes "a") 1001 (codes "uint16") (Some Constant) None)
