use Rattle.bridge_rules.proofs.FittingShown.{fitting_shown, fitting_read}
use Rattle.bridge_rules.proofs.laws.fitting_values_are_shown_and_read.Goals as goal

pub returns-clause-shown : goal.returns-clause-shown
returns-clause-shown c = fitting_shown

pub returns-clause-read : goal.returns-clause-read
returns-clause-read c = fitting_read
