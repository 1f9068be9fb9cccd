use Rattle.sbe_types.specs.declared.message.Value.{items_hidden-the_row-Value-0}
use Rattle.std.proofs.Common.{refl}
use Rattle.bridge_plan.proofs.Computing.{computing}
use Rattle.bridge_plan.proofs.rows.price_rows.Goals as goal

pub returns-clause-there : goal.returns-clause-there
unfolding computing
returns-clause-there c = simp items_hidden-the_row-Value-0

pub returns-clause-back : goal.returns-clause-back
unfolding computing
returns-clause-back c = refl

pub returns-clause-inexact : goal.returns-clause-inexact
unfolding computing
returns-clause-inexact c = refl

pub returns-clause-strange : goal.returns-clause-strange
unfolding computing
returns-clause-strange c = refl

pub returns-clause-twice : goal.returns-clause-twice
unfolding computing
returns-clause-twice c = refl

pub returns-clause-nothing : goal.returns-clause-nothing
unfolding computing
returns-clause-nothing c = refl
