use Rattle.std.proofs.Common.{refl}
use Rattle.level_skip.proofs.Computing.{computing}
use Rattle.level_skip.proofs.worked.groups_are_passed.Goals as goal

pub returns-clause-padded : goal.returns-clause-padded
unfolding computing
returns-clause-padded c = refl

pub returns-clause-nested : goal.returns-clause-nested
unfolding computing
returns-clause-nested c = refl

pub returns-clause-entry : goal.returns-clause-entry
unfolding computing
returns-clause-entry c = refl
