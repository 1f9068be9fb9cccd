use Rattle.std.proofs.Common.{refl}
use Rattle.bridge_plan.proofs.Computing.{computing}
use Rattle.bridge_plan.proofs.rows.passed_rows.Goals as goal

pub returns-clause-header : goal.returns-clause-header
unfolding computing
returns-clause-header c = refl

pub returns-clause-length : goal.returns-clause-length
unfolding computing
returns-clause-length c = refl
