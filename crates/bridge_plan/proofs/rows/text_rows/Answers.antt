use Rattle.sbe_types.specs.declared.message.Value.{items_hidden-the_row-Value-0}
use Rattle.std.proofs.Common.{refl}
use Rattle.bridge_plan.proofs.Computing.{computing}
use Rattle.bridge_plan.proofs.rows.text_rows.Goals as goal

pub returns-clause-alone : goal.returns-clause-alone
unfolding computing
returns-clause-alone c = refl

pub returns-clause-ruled : goal.returns-clause-ruled
unfolding computing
returns-clause-ruled c = simp items_hidden-the_row-Value-0

pub returns-clause-parted : goal.returns-clause-parted
unfolding computing
returns-clause-parted c = simp items_hidden-the_row-Value-0
