use Rattle.std.proofs.Common.{◌≡◌, drop}
use Rattle.std.specs.List.{list_all}
use Rattle.exact_plans.specs.Exact.{is_exact_group}
use Rattle.exact_plans.proofs.forms.+exact.Given as goal

abbrev pub invariant-are_exact-loop-group : goal.invariant-are_exact-loop-group
invariant-are_exact-loop-group l = list_all is_exact_group (drop l.group-index l.groups) ≡ list_all is_exact_group l.groups
