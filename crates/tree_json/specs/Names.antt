-- Schemas whose names need no escapes in a line. Own profile.
use Rattle.std.specs.Prelude.{◌≡◌, ⊤}
use Rattle.std.specs.List.{AllByRecursion}
use Rattle.sbe_types.specs.declared.kind.Kind.{Kind, Leaf, Enum, Set, Const, Comp', Row_of-Member, end_of-Member, more_of-Member}
use Rattle.sbe_types.specs.declared.schema.Field.{Field}
use Rattle.sbe_types.specs.declared.schema.DataField.{DataField}
use Rattle.sbe_types.specs.declared.schema.Group.{Group, Group'}
use Rattle.sbe_types.specs.declared.schema.Level.{Level, Level', out-Level, Row_of-Group, end_of-Group, more_of-Group}
use Rattle.sbe_types.specs.declared.schema.WireSchema.{WireSchema}
use Rattle.sbe_types.specs.declared.message.Msg.{Msg}
use Rattle.schema_facts.specs.IsChecked.{IsChecked}
use Rattle.tree_json.specs.Lines.{message_data, line_of}
use Rattle.json_values.specs.Plain.{IsPlainName, plain_text}

abbrev mutual
  -- the names of a composite's members, at all depths, are plain
  pub HasPlainMembers : Kind → Type 0
  HasPlainMembers (Leaf l) = ⊤
  HasPlainMembers (Enum l names) = ⊤
  HasPlainMembers (Set p names) = ⊤
  HasPlainMembers (Const c) = ⊤
  HasPlainMembers (Comp' n members) = ArePlainMembers members

  -- the same for members
  pub ArePlainMembers : {n : _} → Row_of-Member n → Type 0
  ArePlainMembers end_of-Member = ⊤
  ArePlainMembers (more_of-Member name offset kind rest) = IsPlainName name × HasPlainMembers kind × ArePlainMembers rest

-- a field's name is plain, and so are those in its kind
abbrev pub IsPlainField : Field → Type 0
IsPlainField f = IsPlainName f.name × HasPlainMembers f.kind

-- a data part's name is plain
abbrev pub IsPlainPart : DataField → Type 0
IsPlainPart p = IsPlainName p.name

abbrev mutual
  -- the names of a level's parts are plain, at all depths
  pub IsPlainLevel : Level → Type 0
  IsPlainLevel (Level' name id semantic since block_length fields n groups parts) =
      AllByRecursion IsPlainField fields × ArePlainGroups groups × AllByRecursion IsPlainPart parts

  -- the same for groups
  pub ArePlainGroups : {n : _} → Row_of-Group n → Type 0
  ArePlainGroups end_of-Group = ⊤
  ArePlainGroups (more_of-Group g rest) = IsPlainGroup g × ArePlainGroups rest

  -- the same for a group, and its own name
  pub IsPlainGroup : Group → Type 0
  IsPlainGroup (Group' dim level) = IsPlainName (out-Level level).name × IsPlainLevel level

-- all names of a schema's messages are plain
abbrev pub HasPlainNames : WireSchema → Type 0
HasPlainNames schema = AllByRecursion IsPlainLevel schema.messages

-- The law: the names of a checked schema are plain.
abbrev pub CheckedIsPlain : Type 0
CheckedIsPlain = (schema : WireSchema) → IsChecked schema → HasPlainNames schema

-- The law: if the names are plain, the text that is printed is the line.
abbrev pub PrintedIsLine : Type 0
PrintedIsLine = (schema : WireSchema) (m : Msg) → HasPlainNames schema → plain_text (message_data schema m) ≡ line_of schema m
