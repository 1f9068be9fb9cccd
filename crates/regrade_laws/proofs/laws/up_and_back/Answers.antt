use Rattle.regrade_laws.proofs.Whole.{back}
use Rattle.regrade_laws.proofs.laws.up_and_back.Goals as goal

pub returns : goal.returns
returns c = back
