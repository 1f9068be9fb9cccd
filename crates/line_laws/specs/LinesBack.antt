-- The line of a message that fits reads back as the message.
use Rattle.std.specs.Prelude.{◌≡◌, ℕ, Option, Some, None, Ok, List, [], ◌∷◌, ⊤, slice_get}
use Rattle.std.specs.List.{AllByRecursion}
use Rattle.byte_digits.specs.Digits.{IsBytes}
use Rattle.serde_json.specs.Data.{no_members}
use Rattle.sbe_types.specs.declared.kind.Order.{Order}
use Rattle.sbe_types.specs.declared.kind.Member.{Member}
use Rattle.sbe_types.specs.declared.schema.Field.{Field}
use Rattle.sbe_types.specs.declared.schema.Group.{Group, Group'}
use Rattle.sbe_types.specs.declared.schema.Level.{Level, Level', Row_of-Group, end_of-Group, more_of-Group}
use Rattle.sbe_types.specs.declared.schema.WireSchema.{WireSchema}
use Rattle.sbe_types.specs.declared.message.Value.{Value}
use Rattle.sbe_types.specs.declared.message.DataVal.{DataVal}
use Rattle.sbe_types.specs.declared.message.DataVal.TheVariants as dataval
use Rattle.sbe_types.specs.declared.message.Block.{Block, out-Block}
use Rattle.sbe_types.specs.declared.message.GroupVal.{GroupVal}
use Rattle.sbe_types.specs.declared.message.Msg.{Msg}
use Rattle.sbe_wire.specs.Fits.{EachFits, BlockFits, Fits}
use Rattle.schema_facts.specs.CheckedLevels.{HasNames, HasKinds}
use Rattle.schema_facts.specs.IsChecked.{IsChecked}
use Rattle.schema_facts.specs.Levels.{nodes}
use Rattle.json_values.specs.Values.{listed}
use Rattle.tree_json.specs.Lines.{block_entries, entries_in, line_of}
use Rattle.line_reading.specs.Lines.{block_read, tree_of}
use Rattle.line_laws.specs.AsRead.{put_all}
use Rattle.line_laws.specs.ValuesBack.{HasBytes}

-- ---- bytes

-- the texts of fields consist of bytes
abbrev pub FieldsHaveBytes : List Field → List Value → Type 0
FieldsHaveBytes [] vs = ⊤
FieldsHaveBytes (f ∷ fs) [] = ⊤
FieldsHaveBytes (f ∷ fs) (v ∷ vs) = HasBytes f.kind v × FieldsHaveBytes fs vs

-- a data part consists of bytes
abbrev pub PartHasBytes : DataVal → Type 0
PartHasBytes dataval.Absent = ⊤
PartHasBytes (dataval.Bytes bytes) = IsBytes bytes

-- the property holds of each entry, if they are there
abbrev pub EachThere : (Block → Type 0) → Option (List Block) → Type 0
EachThere P None = ⊤
EachThere P (Some entries) = EachFits P entries

abbrev mutual
  -- the texts and the data of a block, at all depths, consist of bytes, as the code's types ensure
  pub BlockHasBytes : Level → Block → Type 0
  BlockHasBytes (Level' name id semantic since block_length fields n groups parts) b =
      FieldsHaveBytes fields (out-Block b).fields × GroupsHaveBytes groups (out-Block b).groups × AllByRecursion PartHasBytes (out-Block b).parts

  -- the same for groups
  pub GroupsHaveBytes : {n : _} → Row_of-Group n → List GroupVal → Type 0
  GroupsHaveBytes end_of-Group vs = ⊤
  GroupsHaveBytes (more_of-Group g rest) [] = ⊤
  GroupsHaveBytes (more_of-Group g rest) (v ∷ vs) = GroupHasBytes g v × GroupsHaveBytes rest vs

  -- the same for a group's entries
  pub GroupHasBytes : Group → GroupVal → Type 0
  GroupHasBytes (Group' dim level) v = EachThere (λ entry. BlockHasBytes level entry) (entries_in v)

-- the texts and the data of a message consist of bytes
abbrev pub MessageHasBytes : WireSchema → Msg → Type 0
MessageHasBytes schema m = (level : Level) → slice_get schema.messages m.template ≡ Some level → BlockHasBytes level m.block

-- ---- the laws

-- The law: the object of a message's root or of an entry reads back as its block.
abbrev pub BlocksReadBack : Type 0
BlocksReadBack =
    (order : Order) (template : ℕ) (dim : Option (List Member)) (level : Level) (b : Block)
    → AllByRecursion (λ node. HasNames node.level) (nodes template dim level) → AllByRecursion HasKinds (nodes template dim level) → BlockHasBytes level b → BlockFits order level b
    → block_read level (put_all (listed (block_entries level b)) no_members) ≡ Ok b

-- The law: the line of a message that fits a checked schema reads back as the message.
abbrev pub LinesReadBack : Type 0
LinesReadBack = (schema : WireSchema) (m : Msg) → IsChecked schema → MessageHasBytes schema m → Fits schema m → tree_of schema (line_of schema m) ≡ Ok m

-- The law: no two messages that fit a checked schema have the same line.
abbrev pub LinesDiffer : Type 0
LinesDiffer =
    (schema : WireSchema) (m n : Msg) → IsChecked schema → MessageHasBytes schema m → MessageHasBytes schema n → Fits schema m → Fits schema n
    → line_of schema m ≡ line_of schema n → m ≡ n
