use Rattle.std.proofs.Common.{take}
use Rattle.std.specs.List.{All}
use Rattle.printed_lines.specs.ByteConstants.{IsByteMember}
use Rattle.printed_lines.proofs.constants.+kind.Given as goal

abbrev pub invariant-members_have_bytes-loop-member : goal.invariant-members_have_bytes-loop-member
invariant-members_have_bytes-loop-member l = All IsByteMember (take l.member-index l.members)
