-- Schemas, messages and lines on which the definition of a line is computed. Own profile.
use Rattle.std.specs.Prelude.{ℕ, None, List, [], ◌∷◌, ℤ, pos, negsuc, codes}
use Rattle.sbe_types.specs.declared.kind.Order.TheVariants.{Little}
use Rattle.sbe_types.specs.declared.kind.Primitive.{Primitive}
use Rattle.sbe_types.specs.declared.kind.Primitive.TheVariants.{Char, I32, I64, U8, U16}
use Rattle.sbe_types.specs.declared.kind.Presence.TheVariants.{Required}
use Rattle.sbe_types.specs.declared.kind.LeafShape.{LeafShape}
use Rattle.sbe_types.specs.declared.kind.LeafShape.TheVariants.{Number, EncodedText, Octets, Numbers}
use Rattle.sbe_types.specs.declared.kind.Leaf.{Leaf as LeafOf}
use Rattle.sbe_types.specs.declared.kind.Named.{Named}
use Rattle.sbe_types.specs.declared.kind.ConstValue.TheVariants as constant
use Rattle.sbe_types.specs.declared.kind.Kind.{Kind, Leaf, Enum, Set, Const, Comp', end_of-Member, more_of-Member}
use Rattle.sbe_types.specs.declared.schema.Field.{Field}
use Rattle.sbe_types.specs.declared.schema.DataField.{DataField}
use Rattle.sbe_types.specs.declared.schema.Group.{Group'}
use Rattle.sbe_types.specs.declared.schema.Level.{Level, Level', end_of-Group, more_of-Group}
use Rattle.sbe_types.specs.declared.schema.WireSchema.{WireSchema}
use Rattle.sbe_types.specs.declared.message.Msg.{Msg}
use Rattle.sbe_types.specs.declared.message.Elem.TheVariants as elem
use Rattle.sbe_types.specs.declared.message.Value.{Value}
use Rattle.sbe_types.specs.declared.message.Value.TheVariants as value
use Rattle.sbe_types.specs.declared.message.DataVal.{DataVal}
use Rattle.sbe_types.specs.declared.message.DataVal.TheVariants as dataval
use Rattle.sbe_types.specs.declared.message.GroupVal.{GroupVal}
use Rattle.sbe_types.specs.declared.message.GroupVal.TheVariants as groupval
use Rattle.sbe_types.specs.declared.message.Block.{Block}

-- ---- parts

-- a required number, or an array of this length
abbrev pub leaf : Primitive → ℕ → LeafShape → LeafOf
leaf prim length shape = record { prim = prim; length = length; shape = shape; presence = Required; null = pos 255; low = pos 0; high = pos 254 }

-- a field
abbrev pub field : List ℕ → Kind → Field
field name kind = record { name = name; id = 1; since = 0; offset = None; kind = kind }

-- a field of one number
abbrev pub number : List ℕ → Primitive → Field
number name prim = field name (Leaf (leaf prim 1 Number))

-- data
abbrev pub data_of : List ℕ → DataField
data_of name = record { name = name; id = 2; since = 0; length = leaf U16 1 Number }

-- a valid value or a choice
abbrev pub named : List ℕ → ℤ → Named
named name n = record { name = name; number = n }

-- a level with these fields, one group and data parts
abbrev pub flat_level : List ℕ → List Field → List DataField → Level
flat_level name fields parts = Level' name 3 [] 0 0 fields [] end_of-Group parts

-- a level with these fields, one group of this level, and data parts
abbrev pub level_over : List ℕ → List Field → Level → List DataField → Level
level_over name fields inner parts = Level' name 3 [] 0 0 fields (tt ∷ []) (more_of-Group (Group' [] inner) end_of-Group) parts

-- the schema of one message
abbrev pub schema_of : Level → WireSchema
schema_of level = record { id = 7; version = 0; order = Little; header = record { members = [] }; messages = level ∷ [] }

-- a block
abbrev pub block : List Value → List GroupVal → List DataVal → Block
block fields groups parts = record { fields = fields; groups = groups; parts = parts }

-- the message with that block
abbrev pub message : ℕ → Block → Msg
message version b = record { template = 0; version = version; block = b }

-- ---- numbers

-- two numbers
abbrev pub ping : WireSchema
ping = schema_of (flat_level (codes "Ping") (number (codes "a") U16 ∷ number (codes "b") I32 ∷ []) [])

-- 258 and a null
abbrev pub ping_message : Msg
ping_message = message 0 (block (value.Num (pos 258) ∷ value.Null ∷ []) [] [])

-- the line of that message
abbrev pub ping_line : List ℕ
ping_line = codes "{\"data\":{},\"fields\":{\"a\":258,\"b\":null},\"groups\":{},\"template\":\"Ping\",\"version\":0}"

-- two numbers, and three chars
abbrev pub wide : WireSchema
wide = schema_of (flat_level (codes "Wide") (number (codes "i") I64 ∷ number (codes "u") U16 ∷ number (codes "c") Char ∷ number (codes "q") Char ∷ number (codes "z") Char ∷ []) [])

-- a message with the least number of an int64, the greatest of a uint64, and three chars, the last of which isn't
-- printable
abbrev pub wide_message : Msg
wide_message = message 4294967295 (block (value.Num (negsuc 9223372036854775807) ∷ value.Num (pos 18446744073709551615) ∷ value.Num (pos 65) ∷ value.Num (pos 34) ∷ value.Num (pos 127) ∷ []) [] [])

-- the line of that message
abbrev pub wide_line : List ℕ
wide_line = codes "{\"data\":{},\"fields\":{\"i\":-9223372036854775808,\"u\":18446744073709551615,\"c\":\"A\",\"q\":\"\\\"\",\"z\":127},\"groups\":{},\"template\":\"Wide\",\"version\":4294967295}"

-- ---- texts and arrays

-- texts and arrays
abbrev pub texts : WireSchema
texts = schema_of (flat_level (codes "Texts") (field (codes "t") (Leaf (leaf Char 4 EncodedText)) ∷ field (codes "e") (Leaf (leaf Char 4 EncodedText)) ∷ field (codes "h") (Leaf (leaf Char 2 EncodedText)) ∷ field (codes "o") (Leaf (leaf U8 2 Octets)) ∷ field (codes "n") (Leaf (leaf U16 2 Numbers)) ∷ [])
    (data_of (codes "d") ∷ data_of (codes "x") ∷ data_of (codes "y") ∷ []))

-- a text, one with escapes, one in hex; octets, numbers with a null; data with a text, absent, and in hex
abbrev pub texts_message : Msg
texts_message = message 1 (block
    (value.Text (codes "AB") ∷ value.Text (codes "a\"\\~") ∷ value.Text (97 ∷ 255 ∷ []) ∷ value.Nums (elem.Num (pos 0) ∷ elem.Num (pos 255) ∷ []) ∷ value.Nums (elem.Null ∷ elem.Num (negsuc 0) ∷ []) ∷ [])
    [] (dataval.Bytes [] ∷ dataval.Absent ∷ dataval.Bytes (0 ∷ 171 ∷ []) ∷ []))

-- the line of that message
abbrev pub texts_line : List ℕ
texts_line = codes "{\"data\":{\"d\":\"\",\"y\":{\"hex\":\"00ab\"}},\"fields\":{\"t\":\"AB\",\"e\":\"a\\\"\\\\~\",\"h\":{\"hex\":\"61ff\"},\"o\":[0,255],\"n\":[null,-1]},\"groups\":{},\"template\":\"Texts\",\"version\":1}"

-- ---- names

-- two valid values
abbrev pub sides : List Named
sides = named (codes "Buy") (pos 49) ∷ named (codes "Sell") (pos 50) ∷ []

-- two choices
abbrev pub flags : List Named
flags = named (codes "B") (pos 2) ∷ named (codes "A") (pos 0) ∷ []

-- enums, sets and constants
abbrev pub names : WireSchema
names = schema_of (flat_level (codes "Names")
    (field (codes "e") (Enum (leaf Char 1 Number) sides) ∷ field (codes "u") (Enum (leaf Char 1 Number) sides) ∷ field (codes "s") (Set U8 flags) ∷ field (codes "z") (Set U8 flags) ∷ field (codes "r") (Set U8 flags)
    ∷ field (codes "k") (Const (constant.Num (negsuc 1))) ∷ field (codes "l") (Const (constant.Text (codes "USD"))) ∷ field (codes "m") (Const (constant.Code Char (named (codes "Sell") (pos 50)))) ∷ []) [])

-- values that are listed, and some that aren't
abbrev pub names_message : Msg
names_message = message 0 (block (value.Enum (pos 50) ∷ value.Enum (pos 53) ∷ value.Set 5 ∷ value.Set 0 ∷ value.Set 7 ∷ value.Const ∷ value.Const ∷ value.Const ∷ []) [] [])

-- the line of that message
abbrev pub names_line : List ℕ
names_line = codes "{\"data\":{},\"fields\":{\"e\":\"Sell\",\"u\":53,\"s\":[\"B\",\"A\"],\"z\":[],\"r\":7,\"k\":-2,\"l\":\"USD\",\"m\":\"Sell\"},\"groups\":{},\"template\":\"Names\",\"version\":0}"

-- ---- composites and groups

-- a composite with one inside
abbrev pub price : Kind
price = Comp' (tt ∷ tt ∷ []) (more_of-Member (codes "mantissa") None (Leaf (leaf I64 1 Number)) (more_of-Member (codes "in") None (Comp' (tt ∷ []) (more_of-Member (codes "x") None (Leaf (leaf U8 1 Number)) end_of-Member)) end_of-Member))

-- a composite, and a group with a group and data in its entries
abbrev pub nested : WireSchema
nested = schema_of (level_over (codes "Nest") (field (codes "px") price ∷ number (codes "later") U8 ∷ [])
    (level_over (codes "legs") (number (codes "q") U8 ∷ []) (flat_level (codes "subs") (number (codes "s") U8 ∷ []) []) (data_of (codes "note") ∷ [])) [])

-- two entries, of which the first has none in its group and the other two, and a later field that is absent
abbrev pub nested_message : Msg
nested_message = message 0 (block (value.Comp (value.Num (pos 5) ∷ value.Comp (value.Null ∷ []) ∷ []) ∷ value.Absent ∷ [])
    (groupval.Entries (block (value.Num (pos 1) ∷ []) (groupval.Entries [] ∷ []) (dataval.Bytes (codes "hi") ∷ [])
    ∷ block (value.Num (pos 2) ∷ []) (groupval.Entries (block (value.Num (pos 3) ∷ []) [] [] ∷ block (value.Null ∷ []) [] [] ∷ []) ∷ []) (dataval.Absent ∷ []) ∷ []) ∷ []) [])

-- the line of that message
abbrev pub nested_line : List ℕ
nested_line = codes "{\"data\":{},\"fields\":{\"px\":{\"mantissa\":5,\"in\":{\"x\":null}}},\"groups\":{\"legs\":[{\"data\":{\"note\":\"hi\"},\"fields\":{\"q\":1},\"groups\":{\"subs\":[]}},{\"data\":{},\"fields\":{\"q\":2},\"groups\":{\"subs\":[{\"data\":{},\"fields\":{\"s\":3},\"groups\":{}},{\"data\":{},\"fields\":{\"s\":null},\"groups\":{}}]}}]},\"template\":\"Nest\",\"version\":0}"

-- a message whose group is absent
abbrev pub older_message : Msg
older_message = message 0 (block (value.Absent ∷ value.Num (pos 9) ∷ []) (groupval.Absent ∷ []) [])

-- the line of that message
abbrev pub older_line : List ℕ
older_line = codes "{\"data\":{},\"fields\":{\"later\":9},\"groups\":{},\"template\":\"Nest\",\"version\":0}"
