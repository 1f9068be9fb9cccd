use Rattle.regrade_laws.proofs.Down.{down}
use Rattle.regrade_laws.proofs.laws.down_is_projected.Goals as goal

pub returns : goal.returns
returns c = down
