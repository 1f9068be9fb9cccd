use Rattle.std.proofs.Common.{take}
use Rattle.std.specs.List.{All}
use Rattle.printed_lines.specs.ByteConstants.{IsByteField}
use Rattle.printed_lines.proofs.constants.fields_have_bytes.Given as goal

abbrev pub invariant-loop-field : goal.invariant-loop-field
invariant-loop-field l = All IsByteField (take l.field-index l.fields)
