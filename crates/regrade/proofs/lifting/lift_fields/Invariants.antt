use Rattle.std.proofs.Common.{◌≡◌, ◌++◌, drop}
use Rattle.regrade.specs.Each.{lifted_fields}
use Rattle.regrade.proofs.lifting.lift_fields.Given as goal

abbrev pub invariant-loop-i : goal.invariant-loop-i
invariant-loop-i l = l.lifted ++ lifted_fields l.version (drop l.i l.fields) (drop l.next l.values) ≡ lifted_fields l.version l.fields l.values
