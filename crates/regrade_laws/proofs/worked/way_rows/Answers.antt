use Rattle.std.proofs.Common.{refl}
use Rattle.regrade_laws.proofs.Computing.{computing}
use Rattle.regrade_laws.proofs.worked.way_rows.Goals as goal

pub returns-clause-up : goal.returns-clause-up
unfolding computing
returns-clause-up c = refl

pub returns-clause-down : goal.returns-clause-down
unfolding computing
returns-clause-down c = refl

pub returns-clause-none : goal.returns-clause-none
unfolding computing
returns-clause-none c = refl
