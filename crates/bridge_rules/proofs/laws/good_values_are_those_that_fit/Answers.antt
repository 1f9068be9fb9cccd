use Rattle.bridge_rules.proofs.FittingValues.{good_is_fitting}
use Rattle.bridge_rules.proofs.laws.good_values_are_those_that_fit.Goals as goal

pub returns : goal.returns
returns c = good_is_fitting
