-- A schema on which the definitions are computed. Own profile.
use Rattle.std.specs.Prelude.{ℕ, Some, None, List, [], ◌∷◌, pos, codes, map}
use Rattle.sbe_types.specs.declared.kind.ConstValue.TheVariants as constant
use Rattle.sbe_types.specs.declared.kind.Kind.{Kind, Leaf, Const, Comp', end_of-Member, more_of-Member}
use Rattle.sbe_types.specs.declared.kind.LeafShape.TheVariants.{Numbers}
use Rattle.sbe_types.specs.declared.kind.Order.TheVariants.{Little}
use Rattle.sbe_types.specs.declared.kind.Presence.TheVariants.{Required}
use Rattle.sbe_types.specs.declared.kind.Primitive.TheVariants.{U16}
use Rattle.sbe_types.specs.declared.path.Step.{Step}
use Rattle.sbe_types.specs.declared.path.Step.TheVariants.{Part, Entry, Elem}
use Rattle.sbe_types.specs.declared.schema.DataField.{DataField}
use Rattle.sbe_types.specs.declared.schema.Field.{Field}
use Rattle.sbe_types.specs.declared.schema.Group.{Group'}
use Rattle.sbe_types.specs.declared.schema.Level.{Level, Level', out-Level, end_of-Group, more_of-Group}
use Rattle.sbe_types.specs.declared.schema.WireSchema.{WireSchema}
use Rattle.sbe_wire.specs.Rows.Schemas.{field, data_of, header_members, size16, uint8, uint16, uint32, int8, int32}
use Rattle.schema_facts.specs.Levels.{Node, all_nodes}
use Rattle.layout_tables.specs.Parts.{all_parts}

-- a price of a mantissa and an exponent
abbrev pub price : Kind
price = Comp' (tt ∷ tt ∷ []) (more_of-Member (codes "mantissa") None (Leaf (int32 Required)) (more_of-Member (codes "exponent") None (Leaf int8) end_of-Member))

-- three numbers of two bytes
abbrev pub three : Kind
three = Leaf (record { prim = U16; length = 3; shape = Numbers; presence = Required; null = pos 65535; low = pos 0; high = pos 65534 })

-- the entries of subs: a price
abbrev pub subs : Level
subs = Level' (codes "subs") 103 [] 0 5 (field (codes "price") 7 0 price ∷ []) [] end_of-Group []

-- the entries of legs: a number, the group subs, and data
abbrev pub legs : Level
legs = Level' (codes "legs") 102 [] 0 1 (field (codes "ratio") 6 0 (Leaf uint8) ∷ []) (tt ∷ []) (more_of-Group (Group' size16 subs) end_of-Group) (data_of (codes "note") 8 0 ∷ [])

-- the entries of fees, which exist from version 1 on: a number
abbrev pub fees : Level
fees = Level' (codes "fees") 104 [] 1 4 (field (codes "amount") 9 1 (Leaf uint32) ∷ []) [] end_of-Group []

-- a field at a stated offset
abbrev pub late : Field
late = record { name = codes "late"; id = 5; since = 2; offset = Some 16; kind = Leaf uint16 }

-- the fields of an order: a number, a constant, a price, three numbers, and a number since version 2
abbrev pub order_fields : List Field
order_fields =
    field (codes "side") 1 0 (Leaf uint8) ∷ field (codes "kind") 2 0 (Const (constant.Num (pos 4))) ∷ field (codes "price") 3 0 price
    ∷ field (codes "sizes") 4 0 three ∷ late ∷ []

-- a message with two groups, and data since version 2
abbrev pub order : Level
order =
    Level' (codes "Order") 20 [] 0 18 order_fields (tt ∷ tt ∷ []) (more_of-Group (Group' size16 legs) (more_of-Group (Group' size16 fees) end_of-Group))
    (data_of (codes "memo") 10 2 ∷ [])

-- a message of one number
abbrev pub ping : Level
ping = Level' (codes "Ping") 10 [] 0 1 (field (codes "n") 11 0 (Leaf uint8) ∷ []) [] end_of-Group []

-- the schema of these two messages, at version 2
abbrev pub worked : WireSchema
worked =
    record {
      id = 77;
      version = 2;
      order = Little;
      header = record { members = header_members };
      messages = order ∷ ping ∷ [];
    }

-- one group with this name around the entries of a level
abbrev pub around : List ℕ → Level → Level
around name level = Level' name 1 [] 0 0 [] (tt ∷ []) (more_of-Group (Group' size16 level) end_of-Group) []

-- a composite of one member with this name
abbrev pub holding : List ℕ → Kind → Kind
holding name kind = Comp' (tt ∷ []) (more_of-Member name None kind end_of-Member)

-- a field of four nested composites, whose innermost member is an array
abbrev pub deep_field : Field
deep_field = field (codes "x") 1 0 (holding (codes "p") (holding (codes "q") (holding (codes "r") (holding (codes "sizes") three))))

-- a message of six nested groups, the innermost with that field
abbrev pub deep : Level
deep =
    around (codes "Deep") (around (codes "a") (around (codes "b") (around (codes "c") (around (codes "d") (around (codes "e")
    (Level' (codes "f") 1 [] 0 6 (deep_field ∷ []) [] end_of-Group []))))))

-- the schema with only this message
abbrev pub deep_schema : WireSchema
deep_schema =
    record {
      id = 1;
      version = 0;
      order = Little;
      header = record { members = header_members };
      messages = deep ∷ [];
    }

-- the names of all levels, by number
abbrev pub level_names : List (List ℕ)
level_names = map (λ (node : Node). (out-Level node.level).name) (all_nodes worked)

-- the names of all data parts, by number
abbrev pub data_names : List (List ℕ)
data_names = map (λ (part : DataField). part.name) (all_parts worked)

-- the steps to the mantissa of an entry of subs in an entry of legs
abbrev pub to_mantissa : List Step
to_mantissa = Part 5 ∷ Entry 2 ∷ Part 1 ∷ Entry 0 ∷ Part 0 ∷ Part 0 ∷ []

-- the steps to an element of an array
abbrev pub to_element : List Step
to_element = Part 3 ∷ Elem 1 ∷ []

-- the steps to the data of an entry of legs
abbrev pub to_note : List Step
to_note = Part 5 ∷ Entry 13 ∷ Part 2 ∷ []

-- the steps to an entry of a field, which doesn't exist
abbrev pub to_nothing : List Step
to_nothing = Part 0 ∷ Entry 0 ∷ []

-- the steps to an element of the innermost array, as many as a path can need
abbrev pub to_deepest : List Step
to_deepest =
    Part 0 ∷ Entry 1 ∷ Part 0 ∷ Entry 2 ∷ Part 0 ∷ Entry 3 ∷ Part 0 ∷ Entry 4 ∷ Part 0 ∷ Entry 5 ∷ Part 0 ∷ Entry 6
    ∷ Part 0 ∷ Part 0 ∷ Part 0 ∷ Part 0 ∷ Part 0 ∷ Elem 2 ∷ []
