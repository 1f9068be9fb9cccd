use Rattle.std.proofs.Common.{refl}
use Rattle.bridge_plan.proofs.Computing.{computing}
use Rattle.bridge_plan.proofs.rows.covered_data_rows.Goals as goal

pub returns-clause-raw : goal.returns-clause-raw
unfolding computing
returns-clause-raw c = refl

pub returns-clause-text : goal.returns-clause-text
unfolding computing
returns-clause-text c = refl

pub returns-clause-header : goal.returns-clause-header
unfolding computing
returns-clause-header c = refl

pub returns-clause-length : goal.returns-clause-length
unfolding computing
returns-clause-length c = refl

pub returns-clause-again : goal.returns-clause-again
unfolding computing
returns-clause-again c = refl
