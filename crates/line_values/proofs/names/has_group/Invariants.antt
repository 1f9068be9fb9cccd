use Rattle.std.proofs.Common.{◌≡◌, drop}
use Rattle.line_values.specs.Objects.{is_named}
use Rattle.line_values.specs.Code.{group_list_names}
use Rattle.line_values.proofs.names.has_group.Given as goal

abbrev pub invariant-loop-group : goal.invariant-loop-group
invariant-loop-group l = is_named l.key (group_list_names (drop l.group-index l.groups)) ≡ is_named l.key (group_list_names l.groups)
