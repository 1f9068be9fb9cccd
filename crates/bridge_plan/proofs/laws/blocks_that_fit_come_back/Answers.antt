use Rattle.bridge_plan.proofs.FittingMessages.{fits_come_back}
use Rattle.bridge_plan.proofs.laws.blocks_that_fit_come_back.Goals as goal

pub returns : goal.returns
returns c = fits_come_back
