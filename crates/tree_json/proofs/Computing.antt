-- One name for all that a worked row opens: a proof with the line `unfolding computing` computes.
use denote.Hole.Carrier as carrier
use Rattle.sbe_types.specs.declared.schema.Group as group
use Rattle.sbe_types.specs.declared.schema.Level as level
use Rattle.std.specs.Fmt.{digits}
use Rattle.hex.specs.Hex.{encode_with}
use Rattle.json.specs.Print.{escape_byte}
use Rattle.json_values.specs.Values.{value_data}
use Rattle.tree_json.specs.Lines.{block_entries}

unfoldable pub computing : Unit {0}
unfolding digits encode_with escape_byte value_data block_entries group.out-Group level.out-Level carrier.out
computing = tt
