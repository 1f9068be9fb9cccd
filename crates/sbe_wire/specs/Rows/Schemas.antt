-- Schemas on which the definitions are computed. Own profile.
use Rattle.std.specs.Prelude.{ℕ, Option, Some, None, List, [], ◌∷◌, ℤ, pos, negsuc, codes}
use Rattle.sbe_types.specs.declared.kind.Order.TheVariants.{Little, Big}
use Rattle.sbe_types.specs.declared.kind.Primitive.{Primitive}
use Rattle.sbe_types.specs.declared.kind.Primitive.TheVariants.{Char, I8, I32, U8, U16, U32}
use Rattle.sbe_types.specs.declared.kind.Presence.{Presence}
use Rattle.sbe_types.specs.declared.kind.Presence.TheVariants.{Required, Optional}
use Rattle.sbe_types.specs.declared.kind.LeafShape.TheVariants.{Number, RangedText, Numbers}
use Rattle.sbe_types.specs.declared.kind.Leaf.{Leaf as LeafOf}
use Rattle.sbe_types.specs.declared.kind.Kind.{Kind, Leaf, Enum, Set, Comp', end_of-Member, more_of-Member}
use Rattle.sbe_types.specs.declared.kind.Member.{Member}
use Rattle.sbe_types.specs.declared.schema.Field.{Field}
use Rattle.sbe_types.specs.declared.schema.DataField.{DataField}
use Rattle.sbe_types.specs.declared.schema.Group.{Group'}
use Rattle.sbe_types.specs.declared.schema.Level.{Level, Level', end_of-Group, more_of-Group}
use Rattle.sbe_types.specs.declared.schema.WireSchema.{WireSchema}

-- ---- kinds

-- a single number with its presence, null and range
abbrev pub number : Primitive → Presence → ℤ → ℤ → ℤ → LeafOf
number prim presence null low high =
    record { prim = prim; length = 1; shape = Number; presence = presence; null = null; low = low; high = high }

-- a required char
abbrev pub char : LeafOf
char = number Char Required (pos 0) (pos 32) (pos 126)

-- a required int8
abbrev pub int8 : LeafOf
int8 = number I8 Required (negsuc 127) (negsuc 126) (pos 127)

-- an int32 of this presence
abbrev pub int32 : Presence → LeafOf
int32 presence = number I32 presence (negsuc 2147483647) (negsuc 2147483646) (pos 2147483647)

-- a required uint8
abbrev pub uint8 : LeafOf
uint8 = number U8 Required (pos 255) (pos 0) (pos 254)

-- a required uint16
abbrev pub uint16 : LeafOf
uint16 = number U16 Required (pos 65535) (pos 0) (pos 65534)

-- a required uint32
abbrev pub uint32 : LeafOf
uint32 = number U32 Required (pos 4294967295) (pos 0) (pos 4294967294)

-- ---- parts

-- a field without a stated offset
abbrev pub field : List ℕ → ℕ → ℕ → Kind → Field
field name id since kind = record { name = name; id = id; since = since; offset = None; kind = kind }

-- a member of one number
abbrev pub member : List ℕ → Option ℕ → LeafOf → Member
member name offset leaf = record { name = name; offset = offset; kind = Leaf leaf }

-- data with a length of two bytes
abbrev pub data_of : List ℕ → ℕ → ℕ → DataField
data_of name id since = record { name = name; id = id; since = since; length = uint16 }

-- the header of four uint16
abbrev pub header_members : List Member
header_members =
    member (codes "blockLength") None uint16 ∷ member (codes "templateId") None uint16
    ∷ member (codes "schemaId") None uint16 ∷ member (codes "version") None uint16 ∷ []

-- a block length and a count of two bytes each
abbrev pub size16 : List Member
size16 = member (codes "blockLength") None uint16 ∷ member (codes "numInGroup") None uint16 ∷ []

-- ---- schema 7: Ping, Nul, One, Grp, Nest, Big

-- two numbers, of which the second is optional
abbrev pub ping : Level
ping =
    Level' (codes "Ping") 1 [] 0 6
    (field (codes "a") 1001 0 (Leaf uint16) ∷ field (codes "b") 1002 0 (Leaf (int32 Optional)) ∷ [])
    [] end_of-Group []

-- an optional int8 whose null 127 is within its range
abbrev pub nul : Level
nul = Level' (codes "Nul") 2 [] 0 1 (field (codes "n") 1003 0 (Leaf (number I8 Optional (pos 127) (negsuc 126) (pos 127))) ∷ []) [] end_of-Group []

-- a required uint8
abbrev pub one : Level
one = Level' (codes "One") 3 [] 0 1 (field (codes "u") 1004 0 (Leaf uint8) ∷ []) [] end_of-Group []

-- a group whose dimension has five bytes of padding before the count
abbrev pub grp : Level
grp =
    Level' (codes "Grp") 4 [] 0 0 [] (tt ∷ [])
    (more_of-Group (Group' (member (codes "blockLength") None uint16 ∷ member (codes "numInGroup") (Some 7) uint8 ∷ [])
    (Level' (codes "g") 2001 [] 0 1 (field (codes "x") 1005 0 (Leaf uint8) ∷ []) [] end_of-Group [])) end_of-Group) []

-- a group with a group and data in its entries
abbrev pub nest : Level
nest =
    Level' (codes "Nest") 5 [] 0 0 [] (tt ∷ [])
    (more_of-Group (Group' size16
    (Level' (codes "legs") 2002 [] 0 1 (field (codes "q") 1006 0 (Leaf uint8) ∷ []) (tt ∷ [])
    (more_of-Group (Group' size16 (Level' (codes "subs") 2003 [] 0 1 (field (codes "s") 1007 0 (Leaf uint8) ∷ []) [] end_of-Group [])) end_of-Group)
    (data_of (codes "note") 2004 0 ∷ []))) end_of-Group) []

-- a group of entries of four bytes
abbrev pub big : Level
big =
    Level' (codes "Big") 6 [] 0 0 [] (tt ∷ [])
    (more_of-Group (Group' size16 (Level' (codes "h") 2005 [] 0 4 (field (codes "x") 1008 0 (Leaf uint32) ∷ []) [] end_of-Group [])) end_of-Group) []

-- the schema with these six messages
abbrev pub schema7 : WireSchema
schema7 =
    record {
      id = 7;
      version = 0;
      order = Little;
      header = record { members = header_members };
      messages = ping ∷ nul ∷ one ∷ grp ∷ nest ∷ big ∷ [];
    }

-- ---- schema 8: Ev at version 0, and at version 2 with one more valid value, field and data

-- an enum of two values, and a number
abbrev pub event0 : WireSchema
event0 =
    record {
      id = 8;
      version = 0;
      order = Little;
      header = record { members = header_members };
      messages = Level' (codes "Ev") 1 [] 0 2
          (field (codes "e") 1001 0 (Enum char (record { name = codes "Buy"; number = pos 49 } ∷ record { name = codes "Sell"; number = pos 50 } ∷ []))
          ∷ field (codes "k") 1002 0 (Leaf uint8) ∷ []) [] end_of-Group [] ∷ [];
    }

-- the same with a third value, a field since version 1 and data since version 2
abbrev pub event2 : WireSchema
event2 =
    record {
      id = 8;
      version = 2;
      order = Little;
      header = record { members = header_members };
      messages = Level' (codes "Ev") 1 [] 0 4
          (field (codes "e") 1001 0 (Enum char (record { name = codes "Buy"; number = pos 49 } ∷ record { name = codes "Sell"; number = pos 50 } ∷ record { name = codes "Short"; number = pos 53 } ∷ []))
          ∷ field (codes "k") 1002 0 (Leaf uint8) ∷ field (codes "z") 1003 1 (Leaf uint16) ∷ []) [] end_of-Group (data_of (codes "memo") 1004 2 ∷ []) ∷ [];
    }

-- ---- schema 9: one data part

-- a message of one data part
abbrev pub one_data : WireSchema
one_data =
    record {
      id = 9;
      version = 0;
      order = Little;
      header = record { members = header_members };
      messages = Level' (codes "Ow") 1 [] 0 0 [] [] end_of-Group (data_of (codes "d") 1001 0 ∷ []) ∷ [];
    }

-- ---- schema 12, big-endian: a composite, a set, a text and an array

-- a message of these four fields
abbrev pub mixed : WireSchema
mixed =
    record {
      id = 12;
      version = 0;
      order = Big;
      header = record { members = header_members };
      messages = Level' (codes "Mix") 1 [] 0 14
          (field (codes "px") 1001 0 (Comp' (tt ∷ tt ∷ []) (more_of-Member (codes "mantissa") None (Leaf (int32 Required)) (more_of-Member (codes "exponent") None (Leaf int8) end_of-Member)))
          ∷ field (codes "fl") 1002 0 (Set U8 (record { name = codes "A"; number = pos 0 } ∷ record { name = codes "B"; number = pos 2 } ∷ []))
          ∷ field (codes "nm") 1003 0 (Leaf (record { prim = Char; length = 4; shape = RangedText; presence = Optional; null = pos 0; low = pos 32; high = pos 126 }))
          ∷ field (codes "ar") 1004 0 (Leaf (record { prim = U16; length = 2; shape = Numbers; presence = Required; null = pos 65535; low = pos 0; high = pos 65534 }))
          ∷ []) [] end_of-Group [] ∷ [];
    }
