use Rattle.sbe_types.specs.declared.message.GroupVal.{items_hidden-the_row-Block-1}
use Rattle.std.proofs.Common.{refl}
use Rattle.bridge_plan.proofs.Computing.{computing}
use Rattle.bridge_plan.proofs.rows.plan_rows.Goals as goal

pub returns-clause-price : goal.returns-clause-price
unfolding computing
returns-clause-price c = refl

pub returns-clause-raw : goal.returns-clause-raw
unfolding computing
returns-clause-raw c = refl

pub returns-clause-lines : goal.returns-clause-lines
unfolding computing
returns-clause-lines c = refl

pub returns-clause-order : goal.returns-clause-order
unfolding computing
returns-clause-order c = refl

pub returns-clause-block : goal.returns-clause-block
unfolding computing
returns-clause-block c = simp items_hidden-the_row-Block-1
