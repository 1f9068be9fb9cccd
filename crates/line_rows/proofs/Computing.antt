-- One name for all that a worked row opens: a proof with the line `unfolding computing` computes.
use denote.Hole.Carrier as carrier
use Rattle.sbe_types.specs.declared.schema.Group as group
use Rattle.sbe_types.specs.declared.schema.Level as level
use Rattle.std.specs.Fmt.{digits}
use Rattle.std.specs.Str.{is_utf8, chars}
use Rattle.hex.specs.Hex.{decode_pairs}
use Rattle.serde_json.proofs.OnLiterals.{serde_json_on_literals}
use Rattle.line_values.specs.Objects.{each}
use Rattle.line_values.specs.Values.{choices_in, kind_in}
use Rattle.line_reading.specs.Lines.{fields_read, parts_read, block_read}

unfoldable pub computing : Unit {0}
unfolding digits is_utf8 chars decode_pairs serde_json_on_literals each choices_in kind_in fields_read parts_read block_read group.out-Group level.out-Level carrier.out
computing = tt
