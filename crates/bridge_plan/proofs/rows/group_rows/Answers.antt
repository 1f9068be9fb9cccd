use Rattle.std.proofs.Common.{refl}
use Rattle.bridge_plan.proofs.Computing.{computing}
use Rattle.bridge_plan.proofs.rows.group_rows.Goals as goal

pub returns : goal.returns
unfolding computing
returns c = refl
