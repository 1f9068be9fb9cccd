use Rattle.std.proofs.Common.{◌≡◌, drop}
use Rattle.std.specs.List.{list_any}
use Rattle.version_project.specs.IsPlain.{old_group}
use Rattle.version_project.proofs.known.has_old_group.Given as goal

abbrev pub invariant-loop-i : goal.invariant-loop-i
invariant-loop-i l = list_any (old_group l.version) (drop l.i l.groups) ≡ list_any (old_group l.version) (drop l.from l.groups)
