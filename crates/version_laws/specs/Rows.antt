-- Schemas in two versions, bodies and messages, on which the definitions are computed.
use Rattle.std.specs.Prelude.{ℕ, Option, Some, None, List, [], ◌∷◌, pos, codes}
use Rattle.sbe_types.specs.declared.kind.Order.{Order}
use Rattle.sbe_types.specs.declared.kind.Order.TheVariants.{Little}
use Rattle.sbe_types.specs.declared.kind.Presence.TheVariants.{Optional}
use Rattle.sbe_types.specs.declared.kind.Leaf.{Leaf as LeafOf}
use Rattle.sbe_types.specs.declared.kind.Named.{Named}
use Rattle.sbe_types.specs.declared.kind.Member.{Member}
use Rattle.sbe_types.specs.declared.kind.Kind.{Kind, Leaf, Enum, Comp', end_of-Member, more_of-Member}
use Rattle.sbe_types.specs.declared.schema.Field.{Field}
use Rattle.sbe_types.specs.declared.schema.Group.{Group, Group'}
use Rattle.sbe_types.specs.declared.schema.Level.{Level, Level', end_of-Group, more_of-Group}
use Rattle.sbe_types.specs.declared.schema.WireSchema.{WireSchema}
use Rattle.sbe_types.specs.declared.message.Msg.{Msg}
use Rattle.sbe_types.specs.declared.path.Step.TheVariants as way
use Rattle.sbe_wire.specs.declared.codes.FCode.TheVariants as fault
use Rattle.sbe_wire.specs.Faults.{Fault}
use Rattle.sbe_types.specs.declared.message.Value.TheVariants as value
use Rattle.sbe_types.specs.declared.message.DataVal.TheVariants as dataval
use Rattle.sbe_types.specs.declared.message.GroupVal.TheVariants as groupval
use Rattle.sbe_types.specs.declared.message.Block.{Block}
use Rattle.sbe_wire.specs.Rows.Schemas.{header_members, size16, member, field, data_of, char, int8, uint8, uint16, uint32, int32, nul, one, grp, nest, big}
use Rattle.sbe_wire.specs.Rows.Bodies.{flat, with_data}

-- schema 7 with a wider field a
abbrev pub ping_wide : WireSchema
ping_wide = record {
  id = 7;
  version = 0;
  order = Little;
  header = record { members = header_members };
  messages = Level' (codes "Ping") 1 [] 0 8
      (field (codes "a") 1001 0 (Leaf uint32) ∷ field (codes "b") 1002 0 (Leaf (int32 Optional)) ∷ [])
      [] end_of-Group [] ∷ nul ∷ one ∷ grp ∷ nest ∷ big ∷ [];
}

-- schema 9 at version 1, with a group before its data
abbrev pub one_data1 : WireSchema
one_data1 = record {
  id = 9;
  version = 1;
  order = Little;
  header = record { members = header_members };
  messages = Level' (codes "Ow") 1 [] 0 0 [] (tt ∷ [])
      (more_of-Group (Group' size16 (Level' (codes "g") 1002 [] 1 1 (field (codes "x") 1003 1 (Leaf uint8) ∷ []) [] end_of-Group [])) end_of-Group)
      (data_of (codes "d") 1001 0 ∷ []) ∷ [];
}

-- schema 14, a group of entries; at version 1 they gain data
abbrev pub ne0 : WireSchema
ne0 = record {
  id = 14;
  version = 0;
  order = Little;
  header = record { members = header_members };
  messages = Level' (codes "Ne") 1 [] 0 0 [] (tt ∷ [])
      (more_of-Group (Group' size16 (Level' (codes "g") 1001 [] 0 1 (field (codes "x") 1002 0 (Leaf uint8) ∷ []) [] end_of-Group [])) end_of-Group) [] ∷ [];
}

-- the group of schema 14 whose entries gained data
abbrev pub ne_group : Level
ne_group = Level' (codes "g") 1001 [] 0 1 (field (codes "x") 1002 0 (Leaf uint8) ∷ []) [] end_of-Group (data_of (codes "t") 1003 1 ∷ [])

-- schema 14 at version 1
abbrev pub ne1 : WireSchema
ne1 = record {
  id = 14;
  version = 1;
  order = Little;
  header = record { members = header_members };
  messages = Level' (codes "Ne") 1 [] 0 0 [] (tt ∷ [])
      (more_of-Group (Group' size16 ne_group) end_of-Group) [] ∷ [];
}

-- e 53, k 7, z 9, memo A
abbrev pub event_raw_body : List ℕ
event_raw_body = 4 ∷ 0 ∷ 1 ∷ 0 ∷ 8 ∷ 0 ∷ 2 ∷ 0 ∷ 53 ∷ 7 ∷ 9 ∷ 0 ∷ 1 ∷ 0 ∷ 65 ∷ []

-- what the newer schema reads in it
abbrev pub event_full_message : Msg
event_full_message = record {
  template = 0;
  version = 2;
  block = with_data (value.Enum (pos 53) ∷ value.Num (pos 7) ∷ value.Num (pos 9) ∷ []) (dataval.Bytes (65 ∷ []) ∷ []);
}

-- what the older schema reads in it: a number that it doesn't list, and nothing of the later parts
abbrev pub event_raw_message : Msg
event_raw_message = record { template = 0; version = 2; block = flat (value.Enum (pos 53) ∷ value.Num (pos 7) ∷ []) }

-- two entries of the newer version: x 5 and t A, then x 6 and t empty
abbrev pub ne_body : List ℕ
ne_body = 0 ∷ 0 ∷ 1 ∷ 0 ∷ 14 ∷ 0 ∷ 1 ∷ 0 ∷ 1 ∷ 0 ∷ 2 ∷ 0 ∷ 5 ∷ 1 ∷ 0 ∷ 65 ∷ 6 ∷ 0 ∷ 0 ∷ []

-- a message of schema 14 with these entries
abbrev pub ne_of : ℕ → List Block → Msg
ne_of version entries = record { template = 0; version = version; block = record { fields = []; groups = groupval.Entries entries ∷ []; parts = [] } }

-- the entries of that body, as the newer schema reads them
abbrev pub ne_entries : List Block
ne_entries = with_data (value.Num (pos 5) ∷ []) (dataval.Bytes (65 ∷ []) ∷ []) ∷ with_data (value.Num (pos 6) ∷ []) (dataval.Bytes [] ∷ []) ∷ []

-- what the newer schema reads in that body
abbrev pub ne_full_message : Msg
ne_full_message = ne_of 1 ne_entries

-- what the older schema reads in it, wrongly
abbrev pub ne_misread_message : Msg
ne_misread_message = ne_of 1 (flat (value.Num (pos 5) ∷ []) ∷ flat (value.Num (pos 1) ∷ []) ∷ [])

-- what the older schema should read in it
abbrev pub ne_projected_message : Msg
ne_projected_message = ne_of 1 (flat (value.Num (pos 5) ∷ []) ∷ flat (value.Num (pos 6) ∷ []) ∷ [])

-- two entries of the older version
abbrev pub ne_old_body : List ℕ
ne_old_body = 0 ∷ 0 ∷ 1 ∷ 0 ∷ 14 ∷ 0 ∷ 0 ∷ 0 ∷ 1 ∷ 0 ∷ 2 ∷ 0 ∷ 5 ∷ 6 ∷ []

-- what the older schema reads in it
abbrev pub ne_old_message : Msg
ne_old_message = ne_of 0 (flat (value.Num (pos 5) ∷ []) ∷ flat (value.Num (pos 6) ∷ []) ∷ [])

-- what the newer schema reads in it
abbrev pub ne_lifted_message : Msg
ne_lifted_message =
    ne_of 0 (with_data (value.Num (pos 5) ∷ []) (dataval.Absent ∷ []) ∷ with_data (value.Num (pos 6) ∷ []) (dataval.Absent ∷ []) ∷ [])

-- e 53 at version 0, which doesn't list 53
abbrev pub event_early_body : List ℕ
event_early_body = 2 ∷ 0 ∷ 1 ∷ 0 ∷ 8 ∷ 0 ∷ 0 ∷ 0 ∷ 53 ∷ 7 ∷ []

-- what the newer schema reads in it
abbrev pub event_early_message : Msg
event_early_message = record {
  template = 0;
  version = 0;
  block = with_data (value.Enum (pos 53) ∷ value.Num (pos 7) ∷ value.Absent ∷ []) (dataval.Absent ∷ []);
}

-- why the older schema refuses it
abbrev pub event_early_fault : Fault
event_early_fault = record { code = fault.EnumUnknown; path = way.Part 0 ∷ []; offset = 8; detail = pos 53 }

-- ---- one difference each

-- a schema with this id, version, byte order, header and messages
abbrev pub of_form : ℕ → ℕ → Order → List Member → List Level → WireSchema
of_form id version order members messages =
    record { id = id; version = version; order = order; header = record { members = members }; messages = messages }

-- schema 7 at this version, with these messages
abbrev pub with_messages : ℕ → List Level → WireSchema
with_messages version messages = of_form 7 version Little header_members messages

-- the header of schema 7 with a byte of padding before the last member
abbrev pub padded_header : List Member
padded_header =
    member (codes "blockLength") None uint16 ∷ member (codes "templateId") None uint16
    ∷ member (codes "schemaId") None uint16 ∷ member (codes "version") (Some 7) uint16 ∷ []

-- Ping with these fields
abbrev pub ping_of : List Field → Level
ping_of fields = Level' (codes "Ping") 1 [] 0 8 fields [] end_of-Group []

-- a uint8 with this name, since this version, at this offset if there is one
abbrev pub small : List ℕ → ℕ → Option ℕ → Field
small name since offset = record { name = name; id = 1; since = since; offset = offset; kind = Leaf uint8 }

-- schema 7 at this version, with Ping of these fields
abbrev pub small_ping : ℕ → List Field → WireSchema
small_ping version fields = with_messages version (ping_of fields ∷ [])

-- a composite of a mantissa and then an exponent
abbrev pub decimal : LeafOf → Kind
decimal mantissa =
    Comp' (tt ∷ tt ∷ []) (more_of-Member (codes "mantissa") None (Leaf mantissa)
    (more_of-Member (codes "exponent") None (Leaf int8) end_of-Member))

-- an enum over char with these valid values
abbrev pub letters : List Named → Kind
letters names = Enum char names

-- a valid value with this number
abbrev pub letter : List ℕ → ℕ → Named
letter name n = record { name = name; number = pos n }

-- a message of one group
abbrev pub grp_of : List Member → List ℕ → Level
grp_of dimension name =
    Level' (codes "Grp") 4 [] 0 0 [] (tt ∷ [])
    (more_of-Group (Group' dimension (Level' name 2001 [] 0 1 (field (codes "x") 1005 0 (Leaf uint8) ∷ []) [] end_of-Group [])) end_of-Group) []

-- a group in a group, with data after it
abbrev pub nest_of : LeafOf → LeafOf → Level
nest_of inner length =
    Level' (codes "Nest") 5 [] 0 0 [] (tt ∷ [])
    (more_of-Group (Group' size16
    (Level' (codes "legs") 2002 [] 0 1 (field (codes "q") 1006 0 (Leaf uint8) ∷ []) (tt ∷ [])
    (more_of-Group (Group' size16 (Level' (codes "subs") 2003 [] 0 1 (field (codes "s") 1007 0 (Leaf inner) ∷ []) [] end_of-Group [])) end_of-Group)
    (record { name = codes "note"; id = 2004; since = 0; length = length } ∷ []))) end_of-Group) []

-- a group of one field, since this version
abbrev pub empty_group : List ℕ → ℕ → Group
empty_group name since = Group' size16 (Level' name 1002 [] since 1 (field (codes "x") 1003 since (Leaf uint8) ∷ []) [] end_of-Group [])

-- group g, then the group h since version 1
abbrev pub group_last : Level
group_last =
    Level' (codes "Grp") 4 [] 0 0 [] (tt ∷ tt ∷ [])
    (more_of-Group (empty_group (codes "g") 0) (more_of-Group (empty_group (codes "h") 1) end_of-Group)) []

-- group g alone
abbrev pub group_alone : Level
group_alone = Level' (codes "Grp") 4 [] 0 0 [] (tt ∷ []) (more_of-Group (empty_group (codes "g") 0) end_of-Group) []
