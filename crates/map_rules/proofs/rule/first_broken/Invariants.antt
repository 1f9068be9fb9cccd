use Rattle.std.proofs.Common.{◌≡◌, drop}
use Rattle.map_rules.specs.Verdicts.{first_broken}
use Rattle.map_rules.proofs.rule.first_broken.Given as goal

abbrev pub invariant-loop-rule : goal.invariant-loop-rule
invariant-loop-rule l = first_broken (drop l.rule-index l.rules) ≡ first_broken l.rules
