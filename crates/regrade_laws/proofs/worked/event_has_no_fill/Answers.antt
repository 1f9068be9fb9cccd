use Rattle.std.proofs.Common.{refl}
use Rattle.regrade_laws.proofs.Computing.{computing}
use Rattle.regrade_laws.proofs.worked.event_has_no_fill.Goals as goal

pub returns : goal.returns
unfolding computing
returns c = refl
