use Rattle.sbe_types.specs.declared.message.Value.{items_hidden-the_row-Value-0}
use Rattle.std.proofs.Common.{refl}
use Rattle.bridge_plan.proofs.Computing.{computing}
use Rattle.bridge_plan.proofs.rows.moment_rows.Goals as goal

pub returns-clause-cover : goal.returns-clause-cover
unfolding computing
returns-clause-cover c = refl

pub returns-clause-there : goal.returns-clause-there
unfolding computing
returns-clause-there c = simp items_hidden-the_row-Value-0

pub returns-clause-back : goal.returns-clause-back
unfolding computing
returns-clause-back c = refl

pub returns-clause-inexact : goal.returns-clause-inexact
unfolding computing
returns-clause-inexact c = refl

pub returns-clause-no_day : goal.returns-clause-no_day
unfolding computing
returns-clause-no_day c = refl
