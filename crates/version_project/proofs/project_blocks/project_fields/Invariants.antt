use Rattle.std.proofs.Common.{◌≡◌, ◌++◌, drop}
use Rattle.version_project.specs.Each.{known_fields}
use Rattle.version_project.proofs.project_blocks.project_fields.Given as goal

abbrev pub invariant-loop-i : goal.invariant-loop-i
invariant-loop-i l = l.out ++ known_fields l.version (drop l.i l.fields) (drop l.i l.values) ≡ known_fields l.version l.fields l.values
