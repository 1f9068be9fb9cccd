-- What the schema trees stand for.
use Rattle.std.specs.Prelude.{ℕ, Option, Some, None, List, [], ◌∷◌, ℤ, pos, negsuc, codes}
use Rattle.sbe_types.specs.declared.kind.Order.TheVariants.{Little}
use Rattle.sbe_types.specs.declared.kind.Primitive.{Primitive}
use Rattle.sbe_types.specs.declared.kind.Primitive.TheVariants.{I8, I32, U8, U16}
use Rattle.sbe_types.specs.declared.kind.Presence.{Presence}
use Rattle.sbe_types.specs.declared.kind.Presence.TheVariants.{Required, Optional}
use Rattle.sbe_types.specs.declared.kind.LeafShape.TheVariants.{Number}
use Rattle.sbe_types.specs.declared.kind.Leaf.{Leaf as LeafOf}
use Rattle.sbe_types.specs.declared.kind.Kind.{Leaf}
use Rattle.sbe_types.specs.declared.kind.Member.{Member}
use Rattle.sbe_types.specs.declared.schema.Field.{Field}
use Rattle.sbe_types.specs.declared.schema.DataField.{DataField}
use Rattle.sbe_types.specs.declared.schema.Group.{Group, roll-Group}
use Rattle.sbe_types.specs.declared.schema.Level.{Level, roll-Level}
use Rattle.sbe_types.specs.declared.schema.WireSchema.{WireSchema}

-- One number with its null and range.
abbrev pub leaf : Primitive → Presence → ℤ → ℤ → ℤ → LeafOf
leaf prim presence null low high =
    record { prim = prim; length = 1; shape = Number; presence = presence; null = null; low = low; high = high }

-- A required uint8.
abbrev pub uint8 : LeafOf
uint8 = leaf U8 Required (pos 255) (pos 0) (pos 254)

-- A required uint16.
abbrev pub uint16 : LeafOf
uint16 = leaf U16 Required (pos 65535) (pos 0) (pos 65534)

-- An optional int32.
abbrev pub int32 : LeafOf
int32 = leaf I32 Optional (negsuc 2147483647) (negsuc 2147483646) (pos 2147483647)

-- A member of a composite.
abbrev pub member : List ℕ → Option ℕ → LeafOf → Member
member name offset leaf = record { name = name; offset = offset; kind = Leaf leaf }

-- A field.
abbrev pub field : List ℕ → ℕ → LeafOf → Field
field name id leaf = record { name = name; id = id; since = 0; offset = None; kind = Leaf leaf }

-- A dimension of two uint16.
abbrev pub size16 : List Member
size16 = member (codes "blockLength") None uint16 ∷ (member (codes "numInGroup") None uint16 ∷ [])

-- A dimension whose count is a uint8 with padding before it.
abbrev pub size8 : List Member
size8 = member (codes "blockLength") None uint16 ∷ (member (codes "numInGroup") (Some 7) uint8 ∷ [])

-- A level.
abbrev pub level : List ℕ → ℕ → ℕ → List Field → List Group → List DataField → Level
level name id block fields groups parts =
    roll-Level (record { name = name; id = id; semantic = []; since = 0; block_length = block; fields = fields; groups = groups; parts = parts })

-- A group.
abbrev pub group : List Member → Level → Group
group dim level = roll-Group (record { dim = dim; level = level })

-- A message of two fields.
abbrev pub ping : Level
ping = level (codes "Ping") 1 6 (field (codes "a") 1001 uint16 ∷ (field (codes "b") 1002 int32 ∷ [])) [] []

-- A message of one field that can be null.
abbrev pub nul : Level
nul = level (codes "Nul") 2 1 (field (codes "n") 1003 (leaf I8 Optional (pos 127) (negsuc 126) (pos 127)) ∷ []) [] []

-- A message of one group of one field.
abbrev pub grp : Level
grp = level (codes "Grp") 4 0 [] (group size8 (level (codes "g") 2001 1 (field (codes "x") 1005 uint8 ∷ []) [] []) ∷ []) []

-- A group of one field.
abbrev pub subs : Group
subs = group size16 (level (codes "subs") 2003 1 (field (codes "s") 1007 uint8 ∷ []) [] [])

-- A group of a field, a group and a data part.
abbrev pub legs : Group
legs =
    group size16
    (level (codes "legs") 2002 1 (field (codes "q") 1006 uint8 ∷ []) (subs ∷ [])
    (record { name = codes "note"; id = 2004; since = 0; length = uint16 } ∷ []))

-- A message of that group.
abbrev pub nest : Level
nest = level (codes "Nest") 5 0 [] (legs ∷ []) []

-- The checked schema of the tree in order.
abbrev pub checked : WireSchema
checked =
    record {
      id = 7;
      version = 0;
      order = Little;
      header = record {
        members = member (codes "blockLength") None uint16 ∷ (member (codes "templateId") None uint16
            ∷ (member (codes "schemaId") None uint16 ∷ (member (codes "version") None uint16 ∷ [])));
      };
      messages = ping ∷ (nul ∷ (grp ∷ (nest ∷ [])));
    }
