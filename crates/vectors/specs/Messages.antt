-- The message of a schema that is drawn from a seed and an index. Own profile.
use Rattle.std.specs.Prelude.{ℕ, ◌%◌, min, max, if◌then◌else◌, List, [], ◌∷◌, length, Option, Some, None, pos, int_le, slice_get, codes}
use Rattle.std.specs.Option.{option_map_or}
use Rattle.std.specs.Str.{bytes_eq}
use Rattle.sbe_types.specs.declared.kind.Leaf.{Leaf as LeafOf}
use Rattle.sbe_types.specs.declared.kind.Member.{Member}
use Rattle.sbe_types.specs.declared.schema.Field.{Field}
use Rattle.sbe_types.specs.declared.schema.DataField.{DataField}
use Rattle.sbe_types.specs.declared.schema.Group.{Group, Group'}
use Rattle.sbe_types.specs.declared.schema.Level.{Level, Level', Row_of-Group, end_of-Group, more_of-Group}
use Rattle.sbe_types.specs.declared.schema.WireSchema.{WireSchema}
use Rattle.sbe_types.specs.declared.message.Value.{Value}
use Rattle.sbe_types.specs.declared.message.DataVal.{DataVal}
use Rattle.sbe_types.specs.declared.message.DataVal.TheVariants as dataval
use Rattle.sbe_types.specs.declared.message.Block.{Block}
use Rattle.sbe_types.specs.declared.message.GroupVal.{GroupVal}
use Rattle.sbe_types.specs.declared.message.GroupVal.TheVariants as groupval
use Rattle.sbe_types.specs.declared.message.Msg.{Msg}
use Rattle.sbe_types.specs.Numbers.{natural}
use Rattle.schema_rules.specs.Counters.{leaf_in}
use Rattle.vectors.specs.declared.numbers.TheConstants.{BYTE_VALUES, COUNTS, DATA_LENGTHS, RAISED_LIMIT}
use Rattle.vectors.specs.Drawing.{Drawing, ◌>>=◌, always, below, each, times, words_of}
use Rattle.vectors.specs.Values.{value_drawn}

-- ---- counts and lengths

-- the number lowered to the largest one, and raised to the least one unless that is above RAISED_LIMIT
abbrev pub amount : LeafOf → ℕ → ℕ
amount leaf n = if int_le leaf.low (pos RAISED_LIMIT) then max (min (natural leaf.high) n) (natural leaf.low) else min (natural leaf.high) n

-- the leaf of the member with this name
abbrev pub leaf_named : List ℕ → List Member → Option LeafOf
leaf_named name [] = None
leaf_named name (m ∷ ms) = if bytes_eq m.name name then leaf_in m.kind else leaf_named name ms

-- how many entries a group with this dimension has
abbrev pub count_drawn : List Member → Drawing ℕ
count_drawn dim = below COUNTS >>= (λ n. always (option_map_or (λ leaf. amount leaf n) (leaf_named (codes "numInGroup") dim) 0))

-- a data part: its length, and then its bytes
abbrev pub part_drawn : DataField → Drawing DataVal
part_drawn part = do
  n ← below DATA_LENGTHS
  bytes ← times (amount part.length n) (below BYTE_VALUES)
  always (dataval.Bytes bytes)

-- ---- levels

-- a value of the field
abbrev pub field_drawn : Field → Drawing Value
field_drawn field = value_drawn field.kind

unfoldable mutual
  -- the fields of a level, then its groups, then its data
  pub block_drawn : Level → Drawing Block
  block_drawn (Level' name id semantic since block_length fields n groups parts) = do
    values ← each field_drawn fields
    entries ← groups_drawn groups
    bytes ← each part_drawn parts
    always (record { fields = values; groups = entries; parts = bytes })

  -- each group of a level
  pub groups_drawn : {n : _} → Row_of-Group n → Drawing (List GroupVal)
  groups_drawn end_of-Group = always []
  groups_drawn (more_of-Group g rest) = do
    v ← group_drawn g
    vs ← groups_drawn rest
    always (v ∷ vs)

  -- a group: its number of entries, and then each of them
  pub group_drawn : Group → Drawing GroupVal
  group_drawn (Group' dim level) = do
    n ← count_drawn dim
    entries ← times n (block_drawn level)
    always (groupval.Entries entries)

-- ---- messages

-- a message of the template with this number and this root level
abbrev pub message_at : WireSchema → ℕ → Option Level → Drawing (Option Msg)
message_at schema template None = always None
message_at schema template (Some level) = block_drawn level >>= (λ block. always (Some (record { template = template; version = schema.version; block = block })))

-- Message `index` that a schema has by a seed: of the schema's version, and of each template in turn. None if the
-- schema has no messages.
unfoldable pub generated : WireSchema → ℕ → ℕ → Option Msg
generated schema seed index =
    let template = index % length schema.messages in
    (message_at schema template (slice_get schema.messages template) (words_of seed index)).0
