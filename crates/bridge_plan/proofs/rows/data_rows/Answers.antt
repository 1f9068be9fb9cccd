use Rattle.std.proofs.Common.{refl}
use Rattle.bridge_plan.proofs.Computing.{computing}
use Rattle.bridge_plan.proofs.rows.data_rows.Goals as goal

pub returns-clause-there : goal.returns-clause-there
unfolding computing
returns-clause-there c = refl

pub returns-clause-led : goal.returns-clause-led
unfolding computing
returns-clause-led c = refl

pub returns-clause-back : goal.returns-clause-back
unfolding computing
returns-clause-back c = refl
