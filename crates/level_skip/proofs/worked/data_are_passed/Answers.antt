use Rattle.std.proofs.Common.{refl}
use Rattle.level_skip.proofs.Computing.{computing}
use Rattle.level_skip.proofs.worked.data_are_passed.Goals as goal

pub returns-clause-whole : goal.returns-clause-whole
unfolding computing
returns-clause-whole c = refl

pub returns-clause-length : goal.returns-clause-length
unfolding computing
returns-clause-length c = refl

pub returns-clause-bytes : goal.returns-clause-bytes
unfolding computing
returns-clause-bytes c = refl

pub returns-clause-number : goal.returns-clause-number
unfolding computing
returns-clause-number c = refl
