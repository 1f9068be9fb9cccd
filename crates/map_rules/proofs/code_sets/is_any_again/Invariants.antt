use Rattle.std.proofs.Common.{◌≡◌}
use Rattle.map_rules.specs.Rules.{some_again}
use Rattle.map_rules.proofs.code_sets.is_any_again.Given as goal

abbrev pub invariant-loop-i : goal.invariant-loop-i
invariant-loop-i l = l.again ≡ some_again l.table l.i
