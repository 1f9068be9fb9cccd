-- Schemas, lines and messages on which the definition of what a line holds is computed. Own profile.
use Rattle.std.specs.Prelude.{ℕ, None, List, [], ◌∷◌, ℤ, pos, negsuc, codes}
use Rattle.sbe_types.specs.declared.kind.Order.TheVariants.{Little}
use Rattle.sbe_types.specs.declared.kind.Primitive.{Primitive}
use Rattle.sbe_types.specs.declared.kind.Primitive.TheVariants.{Char, I32, I64, U8, U16}
use Rattle.sbe_types.specs.declared.kind.Presence.{Presence}
use Rattle.sbe_types.specs.declared.kind.Presence.TheVariants.{Required, Optional}
use Rattle.sbe_types.specs.declared.kind.LeafShape.{LeafShape}
use Rattle.sbe_types.specs.declared.kind.LeafShape.TheVariants.{Number, EncodedText, Octets, Numbers}
use Rattle.sbe_types.specs.declared.kind.Leaf.{Leaf as LeafOf}
use Rattle.sbe_types.specs.declared.kind.Named.{Named}
use Rattle.sbe_types.specs.declared.kind.ConstValue.TheVariants as constant
use Rattle.sbe_types.specs.declared.kind.Kind.{Kind, Leaf, Enum, Set, Const, Comp', end_of-Member, more_of-Member}
use Rattle.sbe_types.specs.declared.schema.Field.{Field}
use Rattle.sbe_types.specs.declared.schema.DataField.{DataField}
use Rattle.sbe_types.specs.declared.schema.Group.{Group'}
use Rattle.sbe_types.specs.declared.schema.Level.{Level, Level', end_of-Group, more_of-Group}
use Rattle.sbe_types.specs.declared.schema.WireSchema.{WireSchema}
use Rattle.sbe_types.specs.declared.message.Msg.{Msg}
use Rattle.sbe_types.specs.declared.message.Elem.TheVariants as elem
use Rattle.sbe_types.specs.declared.message.Value.{Value}
use Rattle.sbe_types.specs.declared.message.Value.TheVariants as value
use Rattle.sbe_types.specs.declared.message.DataVal.{DataVal}
use Rattle.sbe_types.specs.declared.message.DataVal.TheVariants as dataval
use Rattle.sbe_types.specs.declared.message.GroupVal.{GroupVal}
use Rattle.sbe_types.specs.declared.message.GroupVal.TheVariants as groupval
use Rattle.sbe_types.specs.declared.message.Block.{Block}

-- ---- parts

-- a number, or an array of this length
abbrev pub leaf : Primitive → ℕ → LeafShape → Presence → LeafOf
leaf prim length shape presence = record { prim = prim; length = length; shape = shape; presence = presence; null = pos 255; low = pos 0; high = pos 254 }

-- a field
abbrev pub field : List ℕ → Kind → Field
field name kind = record { name = name; id = 1; since = 0; offset = None; kind = kind }

-- a field of one number that is required
abbrev pub number : List ℕ → Primitive → Field
number name prim = field name (Leaf (leaf prim 1 Number Required))

-- a data part
abbrev pub data_of : List ℕ → DataField
data_of name = record { name = name; id = 2; since = 0; length = leaf U16 1 Number Required }

-- a valid value or a choice
abbrev pub named : List ℕ → ℤ → Named
named name n = record { name = name; number = n }

-- a level with these fields, no groups, and these data parts
abbrev pub flat_level : List ℕ → List Field → List DataField → Level
flat_level name fields parts = Level' name 3 [] 0 0 fields [] end_of-Group parts

-- a level with these fields, one group of this level, and data parts
abbrev pub level_over : List ℕ → List Field → Level → List DataField → Level
level_over name fields inner parts = Level' name 3 [] 0 0 fields (tt ∷ []) (more_of-Group (Group' [] inner) end_of-Group) parts

-- a schema of these messages
abbrev pub schema_of : List Level → WireSchema
schema_of levels = record { id = 7; version = 0; order = Little; header = record { members = [] }; messages = levels }

-- a block
abbrev pub block : List Value → List GroupVal → List DataVal → Block
block fields groups parts = record { fields = fields; groups = groups; parts = parts }

-- a message with that block
abbrev pub message : ℕ → Block → Msg
message template b = record { template = template; version = 0; block = b }

-- ---- numbers, groups and data

-- two numbers, of which the second is optional; a group; groups in a group with data
abbrev pub demo : WireSchema
demo = schema_of
    (flat_level (codes "Ping") (number (codes "a") U16 ∷ field (codes "b") (Leaf (leaf I32 1 Number Optional)) ∷ []) []
    ∷ level_over (codes "Grp") [] (flat_level (codes "g") (number (codes "x") U8 ∷ []) []) []
    ∷ level_over (codes "Nest") [] (level_over (codes "legs") (number (codes "q") U8 ∷ []) (flat_level (codes "subs") (number (codes "s") U8 ∷ []) []) (data_of (codes "note") ∷ [])) [] ∷ [])

-- a word
abbrev pub word_line : List ℕ
word_line = codes "nonsense"

-- only a template
abbrev pub lone_line : List ℕ
lone_line = codes "{\"template\":\"Ping\"}"

-- another template
abbrev pub pong_line : List ℕ
pong_line = codes "{\"template\":\"Pong\"}"

-- one number
abbrev pub ping_line : List ℕ
ping_line = codes "{\"template\":\"Ping\",\"fields\":{\"a\":258}}"

-- the message of that line
abbrev pub ping_message : Msg
ping_message = message 0 (block (value.Num (pos 258) ∷ value.Null ∷ []) [] [])

-- a letter
abbrev pub letter_line : List ℕ
letter_line = codes "{\"template\":\"Ping\",\"fields\":{\"a\":\"x\"}}"

-- two entries
abbrev pub twice_line : List ℕ
twice_line = codes "{\"template\":\"Grp\",\"groups\":{\"g\":[{\"fields\":{\"x\":1}},{\"fields\":{\"x\":1}}]}}"

-- the message of that line
abbrev pub twice_message : Msg
twice_message = message 1 (block [] (groupval.Entries (block (value.Num (pos 1) ∷ []) [] [] ∷ block (value.Num (pos 1) ∷ []) [] [] ∷ []) ∷ []) [])

-- a group without entries in a group, and data
abbrev pub nest_line : List ℕ
nest_line = codes "{\"data\":{},\"fields\":{},\"groups\":{\"legs\":[{\"data\":{\"note\":\"hi\"},\"fields\":{\"q\":1},\"groups\":{\"subs\":[]}}]},\"template\":\"Nest\",\"version\":0}"

-- the message of that line
abbrev pub nest_message : Msg
nest_message = message 2 (block [] (groupval.Entries (block (value.Num (pos 1) ∷ []) (groupval.Entries [] ∷ []) (dataval.Bytes (codes "hi") ∷ []) ∷ []) ∷ []) [])

-- ---- each kind

-- two valid values
abbrev pub sides : List Named
sides = named (codes "Buy") (pos 49) ∷ named (codes "Sell") (pos 50) ∷ []

-- two choices
abbrev pub flags : List Named
flags = named (codes "B") (pos 2) ∷ named (codes "A") (pos 0) ∷ []

-- a composite with one inside
abbrev pub price : Kind
price = Comp' (tt ∷ tt ∷ []) (more_of-Member (codes "mantissa") None (Leaf (leaf I64 1 Number Optional)) (more_of-Member (codes "in") None (Comp' (tt ∷ []) (more_of-Member (codes "x") None (Leaf (leaf U8 1 Number Required)) end_of-Member)) end_of-Member))

-- a field of each kind
abbrev pub kinds : WireSchema
kinds = schema_of (flat_level (codes "Kinds")
    (number (codes "c") Char ∷ field (codes "t") (Leaf (leaf Char 4 EncodedText Optional)) ∷ field (codes "o") (Leaf (leaf U8 2 Octets Required)) ∷ field (codes "n") (Leaf (leaf U16 2 Numbers Optional))
    ∷ field (codes "e") (Enum (leaf Char 1 Number Optional) sides) ∷ field (codes "s") (Set U8 flags)
    ∷ field (codes "k") (Const (constant.Num (negsuc 1))) ∷ field (codes "l") (Const (constant.Text (codes "USD"))) ∷ field (codes "m") (Const (constant.Code Char (named (codes "Sell") (pos 50))))
    ∷ field (codes "px") price ∷ []) (data_of (codes "d") ∷ []) ∷ [])

-- each kind, as it is printed
abbrev pub kinds_line : List ℕ
kinds_line = codes "{\"data\":{\"d\":{\"hex\":\"00ab\"}},\"fields\":{\"c\":\"A\",\"t\":\"a\\\"\",\"o\":[0,255],\"n\":[null,-1],\"e\":\"Sell\",\"s\":[\"B\",\"A\"],\"k\":-2,\"l\":\"USD\",\"m\":\"Sell\",\"px\":{\"mantissa\":5,\"in\":{\"x\":7}}},\"groups\":{},\"template\":\"Kinds\",\"version\":0}"

-- the message of that line
abbrev pub kinds_message : Msg
kinds_message = message 0 (block
    (value.Num (pos 65) ∷ value.Text (codes "a\"") ∷ value.Nums (elem.Num (pos 0) ∷ elem.Num (pos 255) ∷ []) ∷ value.Nums (elem.Null ∷ elem.Num (negsuc 0) ∷ []) ∷ value.Enum (pos 50) ∷ value.Set 5
    ∷ value.Const ∷ value.Const ∷ value.Const ∷ value.Comp (value.Num (pos 5) ∷ value.Comp (value.Num (pos 7) ∷ []) ∷ []) ∷ []) [] (dataval.Bytes (0 ∷ 171 ∷ []) ∷ []))

-- keys in another order, an escape, hex in upper and lower case, a number for a set, and with optional parts missing
abbrev pub other_line : List ℕ
other_line = codes "{\"template\":\"Kinds\",\"fields\":{\"px\":{\"in\":{\"x\":7}},\"o\":[1],\"c\":\"\\u0041\",\"t\":{\"hex\":\"6aFf\"},\"s\":18446744073709551615,\"e\":null,\"m\":50}}"

-- the message of that line
abbrev pub other_message : Msg
other_message = message 0 (block
    (value.Num (pos 65) ∷ value.Text (106 ∷ 255 ∷ []) ∷ value.Nums (elem.Num (pos 1) ∷ []) ∷ value.Nums (elem.Null ∷ elem.Null ∷ []) ∷ value.Null ∷ value.Set 18446744073709551615
    ∷ value.Const ∷ value.Const ∷ value.Const ∷ value.Comp (value.Null ∷ value.Comp (value.Num (pos 7) ∷ []) ∷ []) ∷ []) [] (dataval.Bytes [] ∷ []))

-- ---- refused

-- an array
abbrev pub list_line : List ℕ
list_line = codes "[]"

-- a template is missing
abbrev pub untold_line : List ℕ
untold_line = codes "{\"zz\":1}"

-- a number for a template
abbrev pub number_line : List ℕ
number_line = codes "{\"template\":1}"

-- another version
abbrev pub version_line : List ℕ
version_line = codes "{\"template\":\"Ping\",\"version\":1,\"zz\":1}"

-- two unknown keys
abbrev pub keys_line : List ℕ
keys_line = codes "{\"template\":\"Ping\",\"zz\":1,\"B\":1,\"fields\":[]}"

-- an unknown key in the second entry
abbrev pub key_line : List ℕ
key_line = codes "{\"template\":\"Grp\",\"groups\":{\"g\":[{\"fields\":{\"x\":1}},{\"zz\":1}]}}"

-- a number for an entry
abbrev pub entry_line : List ℕ
entry_line = codes "{\"template\":\"Grp\",\"groups\":{\"g\":[1]}}"

-- a required field is missing, and groups isn't an object
abbrev pub groups_line : List ℕ
groups_line = codes "{\"template\":\"Nest\",\"groups\":{\"legs\":[{\"groups\":1}]}}"

-- groups isn't an object
abbrev pub missing_line : List ℕ
missing_line = codes "{\"template\":\"Nest\",\"groups\":{\"legs\":[{\"groups\":[],\"fields\":{\"q\":1}}]}}"

-- a null for a number
abbrev pub null_line : List ℕ
null_line = codes "{\"template\":\"Ping\",\"fields\":{\"a\":null}}"

-- a null among octets
abbrev pub octets_line : List ℕ
octets_line = codes "{\"template\":\"Kinds\",\"fields\":{\"c\":1,\"o\":[1,null]}}"

-- an unknown choice
abbrev pub choice_line : List ℕ
choice_line = codes "{\"template\":\"Kinds\",\"fields\":{\"c\":1,\"o\":[],\"s\":[\"A\",\"C\"]}}"

-- a choice twice
abbrev pub choices_line : List ℕ
choices_line = codes "{\"template\":\"Kinds\",\"fields\":{\"c\":1,\"o\":[],\"s\":[\"A\",\"A\"]}}"

-- an odd number of hex digits
abbrev pub odd_line : List ℕ
odd_line = codes "{\"template\":\"Kinds\",\"fields\":{\"c\":1,\"t\":{\"hex\":\"abc\"}}}"

-- another constant
abbrev pub constant_line : List ℕ
constant_line = codes "{\"template\":\"Kinds\",\"fields\":{\"c\":1,\"o\":[],\"s\":0,\"l\":\"EUR\"}}"

-- an unknown member
abbrev pub inner_line : List ℕ
inner_line = codes "{\"template\":\"Kinds\",\"fields\":{\"c\":1,\"o\":[],\"s\":0,\"px\":{\"foo\":1}}}"

-- a missing member
abbrev pub place_line : List ℕ
place_line = codes "{\"template\":\"Kinds\",\"fields\":{\"c\":1,\"o\":[],\"s\":0,\"px\":{\"in\":{}}}}"
