use Rattle.std.proofs.Common.{◌≡◌, drop}
use Rattle.line_values.specs.Code.{object_members, member_list_read}
use Rattle.line_values.proofs.ListSteps.{with_front}
use Rattle.line_values.proofs.kinds.+kind.Given as goal

abbrev pub invariant-read_members-loop-member : goal.invariant-read_members-loop-member
invariant-read_members-loop-member l = with_front l.out (member_list_read (drop l.member-index l.members) (object_members l.object)) ≡ member_list_read l.members (object_members l.object)
