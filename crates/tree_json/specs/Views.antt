-- The text of what a view shows.
use Rattle.std.specs.Prelude.{◌≡◌, ℕ, Bool, false, ◌==◌, if◌then◌else◌, List, [], ◌++◌, length, codes, Option}
use Rattle.std.specs.Option.{option_map}
use Rattle.serde_json.specs.Data.{Data, object, array}
use Rattle.sbe_types.specs.declared.schema.DataField.{DataField}
use Rattle.sbe_types.specs.declared.schema.Group.{Group}
use Rattle.sbe_types.specs.declared.message.Block.{out-Block}
use Rattle.sbe_types.specs.declared.message.DataVal.{DataVal}
use Rattle.sbe_types.specs.declared.message.GroupVal.{GroupVal}
use Rattle.tree_json.specs.Texts.{text_behind}
use Rattle.flyweight_view.specs.TypedBlocks.{TypedBlock}
use Rattle.json_values.specs.Values.{Entry, listed, zipped, text_data}
use Rattle.tree_json.specs.Lines.{field_entry, part_entry, group_entry, group_name, items_by, three_entries}
use Rattle.json_values.specs.Plain.{plain_items, entries_text}

-- the object of a block
abbrev pub block_object : TypedBlock → Data
block_object s =
    object (listed (three_entries (zipped part_entry s.parts (out-Block s.block).parts) (zipped field_entry s.fields (out-Block s.block).fields) (zipped group_entry s.groups (out-Block s.block).groups)))

-- the object of a block, without the closing bracket
abbrev pub block_front : TypedBlock → List ℕ
block_front s =
    codes "{\"data\":{" ++ (entries_text false (zipped part_entry s.parts (out-Block s.block).parts)
    ++ (codes ",\"fields\":{" ++ (entries_text false (zipped field_entry s.fields (out-Block s.block).fields)
    ++ (codes ",\"groups\":{" ++ entries_text false (zipped group_entry s.groups (out-Block s.block).groups)))))

-- the data of a block, after the opening of the block's object
abbrev pub data_front : List DataField → List DataVal → List ℕ
data_front parts vs = codes "{\"data\":{" ++ entries_text false (zipped part_entry parts vs)

-- the same if there is data; else nothing
abbrev pub own_data : List DataField → List DataVal → List ℕ
own_data parts vs = if length parts == 0 then [] else data_front parts vs

-- the object of a block up to its groups, whose object is opened, and closed if there are none
abbrev pub block_head : TypedBlock → List ℕ
block_head s =
    data_front s.parts (out-Block s.block).parts ++ (codes ",\"fields\":{" ++ (entries_text false (zipped field_entry s.fields (out-Block s.block).fields) ++ text_behind s.groups))

-- the groups that follow it
abbrev pub own_groups : List Group → List GroupVal → List ℕ
own_groups groups vs = if length groups == 0 then [] else entries_text false (zipped group_entry groups vs)

-- a data part and its bytes
abbrev pub bytes_entry : DataField → Option (List ℕ) → Entry
bytes_entry p bytes = (p.name, option_map text_data bytes)

-- the entries of a group as an array
abbrev pub entries_data : List TypedBlock → Data
entries_data es = array (items_by block_object es)

-- a group and its entries
abbrev pub entries_entry : Group → Option (List TypedBlock) → Entry
entries_entry g entries = (group_name g, option_map entries_data entries)

-- the text of an object is printed without its closing bracket
pub record PrintsOpen (text : List ℕ) (prints : List ℕ → Type 0) : Type 0 where
  pub done : List ℕ
  pub printed : prints done
  pub whole : done ++ codes "}" ≡ text

-- the front of a group's entries is printed, after the opening bracket; the text of those that are left completes it
pub record PrintsFront (later : Bool) (all left : List TypedBlock) (prints : List ℕ → Type 0) : Type 0 where
  pub done : List ℕ
  pub printed : prints done
  pub whole : done ++ plain_items later (items_by block_object left) ≡ plain_items false (items_by block_object all)
