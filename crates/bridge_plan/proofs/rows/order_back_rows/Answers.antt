use Rattle.std.proofs.Common.{refl}
use Rattle.bridge_plan.proofs.Computing.{computing}
use Rattle.bridge_plan.proofs.rows.order_back_rows.Goals as goal

pub returns-clause-back : goal.returns-clause-back
unfolding computing
returns-clause-back c = refl

pub returns-clause-fine : goal.returns-clause-fine
unfolding computing
returns-clause-fine c = refl
