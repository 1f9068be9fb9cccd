use Rattle.std.proofs.Common.{◌≡◌, drop}
use Rattle.version_laws.specs.Same.{same_named}
use Rattle.version_project.specs.Pairwise.{all_alike}
use Rattle.version_project.proofs.differ.leaves.are_same_named.Given as goal

abbrev pub invariant-loop-i : goal.invariant-loop-i
invariant-loop-i l = all_alike same_named (drop l.i l.old) (drop l.i l.new) ≡ all_alike same_named l.old l.new
