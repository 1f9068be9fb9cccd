use Rattle.std.proofs.Common.{◌≡◌, drop}
use Rattle.line_values.specs.Objects.{is_named}
use Rattle.line_values.specs.Code.{member_list_names}
use Rattle.line_values.proofs.names.has_member.Given as goal

abbrev pub invariant-loop-member : goal.invariant-loop-member
invariant-loop-member l = is_named l.key (member_list_names (drop l.member-index l.members)) ≡ is_named l.key (member_list_names l.members)
