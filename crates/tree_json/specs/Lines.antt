-- The line of a message: a compact JSON object with the keys data, fields, groups, template, version. Own profile.
use Rattle.std.specs.Prelude.{ℕ, List, [], ◌∷◌, ◌++◌, codes, Option, Some, None, slice_get}
use Rattle.std.specs.Option.{option_map}
use Rattle.serde_json.specs.Data.{Data, null, number, string, array, object, Items, no_items, item, unsigned}
use Rattle.serde_json.specs.Written.{compact_text}
use Rattle.sbe_types.specs.declared.schema.Field.{Field}
use Rattle.sbe_types.specs.declared.schema.DataField.{DataField}
use Rattle.sbe_types.specs.declared.schema.Group.{Group, Group', out-Group}
use Rattle.sbe_types.specs.declared.schema.Level.{Level, Level', out-Level, Row_of-Group, end_of-Group, more_of-Group}
use Rattle.sbe_types.specs.declared.schema.WireSchema.{WireSchema}
use Rattle.sbe_types.specs.declared.message.Value.{Value}
use Rattle.sbe_types.specs.declared.message.DataVal.{DataVal}
use Rattle.sbe_types.specs.declared.message.DataVal.TheVariants as dataval
use Rattle.sbe_types.specs.declared.message.Block.{Block, out-Block}
use Rattle.sbe_types.specs.declared.message.GroupVal.{GroupVal, items-the_row-Block}
use Rattle.sbe_types.specs.declared.message.GroupVal.TheVariants as groupval
use Rattle.sbe_types.specs.declared.message.Msg.{Msg}
use Rattle.json_values.specs.Values.{Entry, listed, zipped, text_data, value_data}

-- a field and its value
abbrev pub field_entry : Field → Value → Entry
field_entry f v = (f.name, value_data f.kind v)

-- the bytes of a data part; None if it is absent
abbrev pub part_data : DataVal → Option Data
part_data dataval.Absent = None
part_data (dataval.Bytes bytes) = Some (text_data bytes)

-- a data part and its bytes
abbrev pub part_entry : DataField → DataVal → Entry
part_entry p v = (p.name, part_data v)

-- the entries of a group; None if it is absent
abbrev pub entries_in : GroupVal → Option (List Block)
entries_in groupval.Absent = None
entries_in (groupval.Entries' n row) = Some (items-the_row-Block _ row)

-- a group's name, which is that of its level
abbrev pub group_name : Group → List ℕ
group_name g = (out-Level (out-Group g).level).name

-- items, each converted to data
abbrev pub items_by : {A : Type 0} → (A → Data) → List A → Items
items_by f [] = no_items
items_by f (x ∷ xs) = item (f x) (items_by f xs)

-- the three objects of a level: its data, its fields, and its groups
abbrev pub three_entries : List Entry → List Entry → List Entry → List Entry
three_entries parts fields groups =
    (codes "data", Some (object (listed parts))) ∷ (codes "fields", Some (object (listed fields))) ∷ (codes "groups", Some (object (listed groups))) ∷ []

unfoldable mutual
  -- the members of the object of a message's root, or of an entry
  pub block_entries : Level → Block → List Entry
  block_entries (Level' name id semantic since block_length fields n groups parts) b =
      three_entries (zipped part_entry parts (out-Block b).parts) (zipped field_entry fields (out-Block b).fields) (groups_entries groups (out-Block b).groups)

  -- the groups of a level, each with its entries
  pub groups_entries : {n : _} → Row_of-Group n → List GroupVal → List Entry
  groups_entries end_of-Group vs = []
  groups_entries (more_of-Group g rest) [] = []
  groups_entries (more_of-Group g rest) (v ∷ vs) = (group_name g, group_data g v) ∷ groups_entries rest vs

  -- a group as an array of objects; None if it is absent
  pub group_data : Group → GroupVal → Option Data
  group_data (Group' dim level) v = option_map (λ es. array (items_by (λ e. object (listed (block_entries level e))) es)) (entries_in v)

-- a group with its entries
abbrev pub group_entry : Group → GroupVal → Entry
group_entry g v = (group_name g, group_data g v)

-- the object of a message's root or of an entry
abbrev pub block_data : Level → Block → Data
block_data level b = object (listed (block_entries level b))

-- the members of a message's object: those of its root, then its template's name and its version
abbrev pub message_entries : Level → ℕ → Block → List Entry
message_entries level version b =
    block_entries level b ++ ((codes "template", Some (string (out-Level level).name)) ∷ (codes "version", Some (number (unsigned version))) ∷ [])

-- a message of the template with this root level; null without a template
abbrev pub message_at : Option Level → Msg → Data
message_at None m = null
message_at (Some level) m = object (listed (message_entries level m.version m.block))

-- the message as JSON data
abbrev pub message_data : WireSchema → Msg → Data
message_data schema m = message_at (slice_get schema.messages m.template) m

-- the line of a message, without its line end
abbrev pub line_of : WireSchema → Msg → List ℕ
line_of schema m = compact_text (message_data schema m)
