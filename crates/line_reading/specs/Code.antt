-- Levels by their lists, and templates.
use Rattle.std.specs.Prelude.{ℕ, List, [], ◌∷◌, codes, Ok}
use Rattle.serde_json.specs.Data.{Members}
use Rattle.sbe_types.specs.declared.schema.Group.{Group}
use Rattle.sbe_types.specs.declared.schema.Level.{Level, out-Level}
use Rattle.sbe_types.specs.declared.message.Block.{Block}
use Rattle.sbe_types.specs.declared.message.GroupVal.{GroupVal}
use Rattle.line_values.specs.Refusals.{Reading, ◌>>=◌}
use Rattle.line_values.specs.Objects.{part}
use Rattle.line_values.specs.Keys.{field_names, data_names}
use Rattle.line_values.specs.Code.{group_list_names}
use Rattle.line_reading.specs.Lines.{fields_read, parts_read, group_read, block_with, Template}

-- the entries of groups, in the schema's order
unfoldable pub group_list_read : List Group → Members → Reading (List GroupVal)
group_list_read [] ms = Ok []
group_list_read (g ∷ gs) ms = do
  v ← group_read g ms
  vs ← group_list_read gs ms
  Ok (v ∷ vs)

-- a block by the members of the object of a level
unfoldable pub block_opened : Level → Members → Reading Block
block_opened level ms = do
  found_fields ← part (codes "fields") (field_names (out-Level level).fields) ms
  vs ← fields_read (out-Level level).fields found_fields
  found_groups ← part (codes "groups") (group_list_names (out-Level level).groups) ms
  ws ← group_list_read (out-Level level).groups found_groups
  found_parts ← part (codes "data") (data_names (out-Level level).parts) ms
  ps ← parts_read (out-Level level).parts found_parts
  Ok (block_with vs ws ps)

-- a template by its number and level
abbrev pub template : ℕ → Level → Template
template number level = record { number = number; level = level }
