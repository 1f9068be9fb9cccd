use Rattle.std.proofs.Common.{refl}
use Rattle.bridge_plan.proofs.Computing.{computing}
use Rattle.bridge_plan.proofs.rows.cover_rows.Goals as goal

pub returns-clause-price : goal.returns-clause-price
unfolding computing
returns-clause-price c = refl

pub returns-clause-raw : goal.returns-clause-raw
unfolding computing
returns-clause-raw c = refl

pub returns-clause-lines : goal.returns-clause-lines
unfolding computing
returns-clause-lines c = refl

pub returns-clause-order : goal.returns-clause-order
unfolding computing
returns-clause-order c = refl

pub returns-clause-strange : goal.returns-clause-strange
unfolding computing
returns-clause-strange c = refl

pub returns-clause-other : goal.returns-clause-other
unfolding computing
returns-clause-other c = refl
