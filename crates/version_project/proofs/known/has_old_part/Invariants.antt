use Rattle.std.proofs.Common.{◌≡◌, drop}
use Rattle.std.specs.List.{list_any}
use Rattle.version_laws.specs.Projected.{old_part}
use Rattle.version_project.proofs.known.has_old_part.Given as goal

abbrev pub invariant-loop-i : goal.invariant-loop-i
invariant-loop-i l = list_any (old_part l.version) (drop l.i l.parts) ≡ list_any (old_part l.version) (drop l.from l.parts)
