-- The message that a line holds, or the first refusal. Own profile.
use Rattle.std.specs.Prelude.{ℕ, suc, ◌==◌, Bool, false, if◌then◌else◌, List, [], ◌∷◌, codes, Option, Some, None, option_and_then, Ok}
use Rattle.std.specs.Str.{bytes_eq, is_utf8}
use Rattle.serde_json.specs.Data.{Data, Items, Members}
use Rattle.serde_json.specs.Find.{get_member, as_object, as_array, as_number, as_str, as_u64}
use Rattle.serde_json.specs.Read.{read}
use Rattle.sbe_types.specs.declared.schema.Field.{Field}
use Rattle.sbe_types.specs.declared.schema.DataField.{DataField}
use Rattle.sbe_types.specs.declared.schema.Group.{Group, Group'}
use Rattle.sbe_types.specs.declared.schema.Level.{Level, Level', out-Level, Row_of-Group, end_of-Group, more_of-Group}
use Rattle.sbe_types.specs.declared.schema.WireSchema.{WireSchema}
use Rattle.sbe_types.specs.declared.message.Value.{Value}
use Rattle.sbe_types.specs.declared.message.DataVal.{DataVal}
use Rattle.sbe_types.specs.declared.message.DataVal.TheVariants as dataval
use Rattle.sbe_types.specs.declared.message.Block.{Block}
use Rattle.sbe_types.specs.declared.message.GroupVal.{GroupVal}
use Rattle.sbe_types.specs.declared.message.GroupVal.TheVariants as groupval
use Rattle.sbe_types.specs.declared.message.Msg.{Msg}
use Rattle.line_values.specs.declared.refusals.JCode.TheVariants.{NotJson, Shape, UnknownName, Kind}
use Rattle.line_values.specs.Refusals.{Reading, ◌>>=◌, refuse, or_refuse, inside}
use Rattle.line_values.specs.Objects.{known, there_or, part, each, bytes_in}
use Rattle.line_values.specs.Values.{value_in}
use Rattle.line_values.specs.Keys.{field_names, data_names, group_name, entry_names, message_names}

-- ---- fields and data

-- the value of a field
abbrev pub field_read : Field → Members → Reading Value
field_read f ms = value_in f.name f.kind ms

-- the values of fields, in the schema's order
unfoldable pub fields_read : List Field → Members → Reading (List Value)
fields_read [] ms = Ok []
fields_read (f ∷ fs) ms = do
  v ← field_read f ms
  vs ← fields_read fs ms
  Ok (v ∷ vs)

-- the bytes of a data part
abbrev pub data_in : Data → Reading DataVal
data_in d = bytes_in d >>= (λ bytes. Ok (dataval.Bytes bytes))

-- the bytes of data; a missing one is empty
abbrev pub data_there : Option Data → Reading DataVal
data_there found = there_or (Ok (dataval.Bytes [])) data_in found

-- the bytes of a data part
abbrev pub data_read : DataField → Members → Reading DataVal
data_read p ms = inside p.name (data_there (get_member p.name ms))

-- the bytes of data parts, in the schema's order
unfoldable pub parts_read : List DataField → Members → Reading (List DataVal)
parts_read [] ms = Ok []
parts_read (p ∷ ps) ms = do
  v ← data_read p ms
  vs ← parts_read ps ms
  Ok (v ∷ vs)

-- ---- blocks and groups

-- the names of groups
abbrev pub group_names : {n : _} → Row_of-Group n → List (List ℕ)
group_names end_of-Group = []
group_names (more_of-Group g rest) = group_name g ∷ group_names rest

-- a block by the members of an entry's object
abbrev pub entry_of : (Members → Reading Block) → Members → Reading Block
entry_of block ms = known entry_names ms >>= (λ _. block ms)

-- an entry, which is an object
abbrev pub entry_in : (Members → Reading Block) → Data → Reading Block
entry_in block d = do
  ms ← or_refuse Kind [] (as_object d)
  inside (codes ".") (entry_of block ms)

-- the entries of an array
abbrev pub entries_of : (Members → Reading Block) → Items → Reading GroupVal
entries_of block ds = each (entry_in block) 0 ds >>= (λ entries. Ok (groupval.Entries entries))

-- the entries of a group, as an array
abbrev pub entries_in : (Members → Reading Block) → Data → Reading GroupVal
entries_in block d = or_refuse Kind [] (as_array d) >>= entries_of block

-- the entries of a group; none if it is missing
abbrev pub group_in : (Members → Reading Block) → Option Data → Reading GroupVal
group_in block found = there_or (Ok (groupval.Entries [])) (entries_in block) found

-- a block with these values
abbrev pub block_with : List Value → List GroupVal → List DataVal → Block
block_with fields groups parts = record { fields = fields; groups = groups; parts = parts }

unfoldable mutual
  -- the block of a message's root or of an entry, by the members of its object: fields, then groups, then data
  pub block_read : Level → Members → Reading Block
  block_read (Level' name id semantic since block_length fields n groups parts) ms = do
    found_fields ← part (codes "fields") (field_names fields) ms
    vs ← fields_read fields found_fields
    found_groups ← part (codes "groups") (group_names groups) ms
    ws ← groups_read groups found_groups
    found_parts ← part (codes "data") (data_names parts) ms
    ps ← parts_read parts found_parts
    Ok (block_with vs ws ps)

  -- the entries of groups, in the schema's order
  pub groups_read : {n : _} → Row_of-Group n → Members → Reading (List GroupVal)
  groups_read end_of-Group ms = Ok []
  groups_read (more_of-Group g rest) ms = do
    v ← group_read g ms
    vs ← groups_read rest ms
    Ok (v ∷ vs)

  -- the entries of a group
  pub group_read : Group → Members → Reading GroupVal
  group_read (Group' dim level) ms = inside (out-Level level).name (group_in (λ found. block_read level found) (get_member (out-Level level).name ms))

-- ---- messages

-- the level of a message, and its number in the schema
pub record Template : Type 0 where
  pub number : ℕ
  pub level : Level

-- the first level with this name; the levels are numbered from i on
abbrev pub level_named : ℕ → List Level → List ℕ → Option Template
level_named i [] s = None
level_named i (level ∷ levels) s =
    if bytes_eq (out-Level level).name s then Some (record { number = i; level = level }) else level_named (suc i) levels s

-- the template with this name; the place of an unknown name is the name itself
abbrev pub named_template : List Level → List ℕ → Reading Template
named_template levels s = or_refuse UnknownName s (level_named 0 levels s)

-- the template of a message, whose name must be there, as a string
abbrev pub template_in : List Level → Option Data → Reading Template
template_in levels None = refuse Shape (codes "template")
template_in levels (Some d) = or_refuse Kind (codes "template") (as_str d) >>= named_template levels

-- the number is the version
abbrev pub is_version : ℕ → Option ℕ → Bool
is_version version None = false
is_version version (Some n) = n == version

-- the version, if it is there, is the schema's
abbrev pub version_in : ℕ → Option Data → Reading (Unit {0})
version_in version None = Ok tt
version_in version (Some d) =
    if is_version version (option_and_then as_u64 (as_number d)) then Ok tt else refuse Kind (codes "version")

-- a message of a template
abbrev pub message_with : ℕ → Template → Block → Msg
message_with version template block = record { template = template.number; version = version; block = block }

-- the message in an object: its template, its version, its unknown keys, its root
abbrev pub message_read : WireSchema → Members → Reading Msg
message_read schema ms = do
  template ← template_in schema.messages (get_member (codes "template") ms)
  _ ← version_in schema.version (get_member (codes "version") ms)
  _ ← known message_names ms
  block ← block_read template.level ms
  Ok (message_with schema.version template block)

-- the message in JSON data, which must be an object
abbrev pub message_in : WireSchema → Data → Reading Msg
message_in schema d = or_refuse Shape [] (as_object d) >>= message_read schema

-- the message of what is read of a text
abbrev pub found_in : WireSchema → Option Data → Reading Msg
found_in schema None = refuse NotJson []
found_in schema (Some d) = message_in schema d

-- the value of a JSON text (RFC 8259), as `serde_json` reads it
abbrev pub json_value : List ℕ → Option Data
json_value bytes = if is_utf8 bytes then read bytes else None

-- the message that a line holds, or the first refusal with its place
abbrev pub tree_of : WireSchema → List ℕ → Reading Msg
tree_of schema line = found_in schema (json_value line)
