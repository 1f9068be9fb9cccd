use Rattle.std.proofs.Common.{take}
use Rattle.std.specs.List.{All}
use Rattle.printed_lines.specs.ByteConstants.{IsByteLevel}
use Rattle.printed_lines.proofs.constants.levels_have_bytes.Given as goal

abbrev pub invariant-loop-level : goal.invariant-loop-level
invariant-loop-level l = All IsByteLevel (take l.level-index l.levels)
