use Rattle.bridge_rules.proofs.BoundedRules.{bounded_shown}
use Rattle.bridge_rules.proofs.laws.good_values_are_shown.Goals as goal

pub returns : goal.returns
returns c = bounded_shown
