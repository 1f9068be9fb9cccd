use Rattle.std.proofs.Common.{refl}
use Rattle.regrade_laws.proofs.Computing.{computing}
use Rattle.regrade_laws.proofs.worked.event_goes_down.Goals as goal

pub returns-clause-message : goal.returns-clause-message
unfolding computing
returns-clause-message c = refl

pub returns-clause-dropped : goal.returns-clause-dropped
unfolding computing
returns-clause-dropped c = refl

pub returns-clause-filled : goal.returns-clause-filled
unfolding computing
returns-clause-filled c = refl
