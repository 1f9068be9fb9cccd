use Rattle.std.proofs.Common.{◌≡◌, ◌++◌, drop}
use Rattle.version_project.specs.Each.{known_parts}
use Rattle.version_project.proofs.project_blocks.project_parts.Given as goal

abbrev pub invariant-loop-i : goal.invariant-loop-i
invariant-loop-i l = l.out ++ known_parts l.version (drop l.i l.parts) (drop l.i l.values) ≡ known_parts l.version l.parts l.values
