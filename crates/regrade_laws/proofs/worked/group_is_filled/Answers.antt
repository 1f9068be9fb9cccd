use Rattle.std.proofs.Common.{refl}
use Rattle.regrade_laws.proofs.Computing.{computing}
use Rattle.regrade_laws.proofs.worked.group_is_filled.Goals as goal

pub returns-clause-message : goal.returns-clause-message
unfolding computing
returns-clause-message c = refl

pub returns-clause-filled : goal.returns-clause-filled
unfolding computing
returns-clause-filled c = refl

pub returns-clause-back : goal.returns-clause-back
unfolding computing
returns-clause-back c = refl

pub returns-clause-dropped : goal.returns-clause-dropped
unfolding computing
returns-clause-dropped c = refl
