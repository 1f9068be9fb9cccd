use Rattle.bridge_rules.proofs.RepeatingRules.{rule_repeats}
use Rattle.bridge_rules.proofs.laws.rules_of_checked_kinds_repeat.Goals as goal

pub returns : goal.returns
returns c = rule_repeats
