-- What a view of a block shows: its parts by the schema, and their values. From SBE 1.0, Message structure.
use Rattle.std.specs.Prelude.{ℕ, Option, Some, None, List, [], ◌∷◌, map}
use Rattle.sbe_types.specs.declared.kind.Kind.{Kind, Leaf, Enum, Set, Const, Comp', items-the_row-Member}
use Rattle.sbe_types.specs.declared.kind.Member.{Member}
use Rattle.sbe_types.specs.declared.schema.Field.{Field}
use Rattle.sbe_types.specs.declared.schema.DataField.{DataField}
use Rattle.sbe_types.specs.declared.schema.Group.{Group, out-Group}
use Rattle.sbe_types.specs.declared.schema.Level.{Level, out-Level}
use Rattle.sbe_types.specs.declared.message.Block.{Block}
use Rattle.sbe_types.specs.declared.message.DataVal.{DataVal}
use Rattle.sbe_types.specs.declared.message.DataVal.TheVariants as dataval
use Rattle.sbe_types.specs.declared.message.GroupVal.{GroupVal, items-the_row-Block}
use Rattle.sbe_types.specs.declared.message.GroupVal as groupval
use Rattle.sbe_types.specs.declared.message.Msg.{Msg}
use Rattle.sbe_types.specs.declared.message.Value.{Value, items-the_row-Value}
use Rattle.sbe_types.specs.declared.message.Value as value

-- the parts of a block by the schema, and their values
pub record TypedBlock : Type 0 where
  pub fields : List Field
  pub groups : List Group
  pub parts : List DataField
  pub block : Block

-- a block of a level
abbrev pub typed_level : Level → Block → TypedBlock
typed_level level block = record { fields = (out-Level level).fields; groups = (out-Level level).groups; parts = (out-Level level).parts; block = block }

-- a member of a composite as a field, which exists at each version
abbrev pub member_field : Member → Field
member_field m = record { name = m.name; id = 0; since = 0; offset = m.offset; kind = m.kind }

-- a composite by its members and their values
abbrev pub typed_members : List Member → List Value → TypedBlock
typed_members members values = record { fields = map member_field members; groups = []; parts = []; block = record { fields = values; groups = []; parts = [] } }

-- ---- composites

-- the members of a composite
abbrev pub members_of : Kind → Option (List Member)
members_of (Comp' n members) = Some (items-the_row-Member _ members)
members_of (Leaf l) = None
members_of (Enum l names) = None
members_of (Set p names) = None
members_of (Const c) = None

-- the values of a composite's members
abbrev pub values_in : Value → Option (List Value)
values_in (value.Comp' n values) = Some (items-the_row-Value _ values)
values_in (value.Num n) = None
values_in (value.Text text) = None
values_in (value.Nums elements) = None
values_in (value.Enum n) = None
values_in (value.Set bits) = None
values_in value.Absent = None
values_in value.Const = None
values_in value.Null = None

-- what a composite's value shows
abbrev pub typed_composite : Option (List Member) → Option (List Value) → Option TypedBlock
typed_composite (Some members) (Some values) = Some (typed_members members values)
typed_composite (Some members) None = None
typed_composite None values = None

-- what a field that is a composite shows
abbrev pub typed_field : Option Field → Option Value → Option TypedBlock
typed_field (Some f) (Some v) = typed_composite (members_of f.kind) (values_in v)
typed_field (Some f) None = None
typed_field None v = None

-- ---- groups and data

-- the bytes of data; None if it is absent
abbrev pub bytes_in : DataVal → Option (List ℕ)
bytes_in dataval.Absent = None
bytes_in (dataval.Bytes bytes) = Some bytes

-- what a group's entries show; None if the group is absent
abbrev pub entries_in : Level → GroupVal → Option (List TypedBlock)
entries_in level groupval.Absent = None
entries_in level (groupval.Entries' n blocks) = Some (map (typed_level level) (items-the_row-Block _ blocks))

-- what the entries of a group show, if there is a group with a value
abbrev pub typed_group : Option Group → Option GroupVal → Option (Option (List TypedBlock))
typed_group (Some g) (Some v) = Some (entries_in (out-Group g).level v)
typed_group (Some g) None = None
typed_group None v = None

-- what groups show, each of those with a value
abbrev pub typed_groups : List Group → List GroupVal → List (Option (List TypedBlock))
typed_groups [] vs = []
typed_groups (g ∷ gs) [] = []
typed_groups (g ∷ gs) (v ∷ vs) = entries_in (out-Group g).level v ∷ typed_groups gs vs

-- ---- messages

-- a message and the root level of its template
pub record TypedMessage : Type 0 where
  pub level : Level
  pub message : Msg
