use Rattle.sbe_types.specs.declared.message.Value.{items_hidden-the_row-Value-0}
use Rattle.std.proofs.Common.{refl}
use Rattle.bridge_plan.proofs.Computing.{computing}
use Rattle.bridge_plan.proofs.rows.order_rows.Goals as goal

pub returns-clause-there : goal.returns-clause-there
unfolding computing
returns-clause-there c = simp items_hidden-the_row-Value-0

pub returns-clause-strange : goal.returns-clause-strange
unfolding computing
returns-clause-strange c = refl
