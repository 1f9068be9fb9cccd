use Rattle.std.proofs.Common.{◌≡◌, ◌++◌, drop}
use Rattle.regrade.specs.Each.{lifted_parts}
use Rattle.regrade.proofs.lifting.lift_parts.Given as goal

abbrev pub invariant-loop-i : goal.invariant-loop-i
invariant-loop-i l = l.lifted ++ lifted_parts l.version (drop l.i l.parts) (drop l.next l.values) ≡ lifted_parts l.version l.parts l.values
