use Rattle.sbe_types.specs.declared.message.Value.{items_hidden-the_row-Value-0}
use Rattle.std.proofs.Common.{refl}
use Rattle.bridge_plan.proofs.Computing.{computing}
use Rattle.bridge_plan.proofs.rows.place_rows.Goals as goal

pub returns-clause-all : goal.returns-clause-all
unfolding computing
returns-clause-all c = simp items_hidden-the_row-Value-0

pub returns-clause-side : goal.returns-clause-side
unfolding computing
returns-clause-side c = refl

pub returns-clause-before : goal.returns-clause-before
unfolding computing
returns-clause-before c = refl

pub returns-clause-entry : goal.returns-clause-entry
unfolding computing
returns-clause-entry c = refl
