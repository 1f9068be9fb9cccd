use Rattle.std.proofs.Common.{◌≡◌, drop}
use Rattle.version_project.specs.Additions.{text, added_each}
use Rattle.version_project.proofs.added.+added.Given as goal

abbrev pub invariant-added_group-loop-i : goal.invariant-added_group-loop-i
invariant-added_group-loop-i l = text (added_each l.fn.version (drop l.i l.fn.groups)) ≡ text (added_each l.fn.version l.fn.groups)
