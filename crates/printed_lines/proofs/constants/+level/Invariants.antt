use Rattle.std.proofs.Common.{take}
use Rattle.std.specs.List.{All}
use Rattle.printed_lines.specs.ByteConstants.{IsByteGroup}
use Rattle.printed_lines.proofs.constants.+level.Given as goal

abbrev pub invariant-groups_have_bytes-loop-group : goal.invariant-groups_have_bytes-loop-group
invariant-groups_have_bytes-loop-group l = All IsByteGroup (take l.group-index l.groups)
