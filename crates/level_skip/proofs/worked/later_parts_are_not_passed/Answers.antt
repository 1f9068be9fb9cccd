use Rattle.std.proofs.Common.{refl}
use Rattle.level_skip.proofs.Computing.{computing}
use Rattle.level_skip.proofs.worked.later_parts_are_not_passed.Goals as goal

pub returns-clause-later : goal.returns-clause-later
unfolding computing
returns-clause-later c = refl

pub returns-clause-earlier : goal.returns-clause-earlier
unfolding computing
returns-clause-earlier c = refl

pub returns-clause-own : goal.returns-clause-own
unfolding computing
returns-clause-own c = refl

pub returns-clause-floor : goal.returns-clause-floor
unfolding computing
returns-clause-floor c = refl
