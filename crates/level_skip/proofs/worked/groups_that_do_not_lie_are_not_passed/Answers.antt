use Rattle.std.proofs.Common.{refl}
use Rattle.level_skip.proofs.Computing.{computing}
use Rattle.level_skip.proofs.worked.groups_that_do_not_lie_are_not_passed.Goals as goal

pub returns-clause-entries : goal.returns-clause-entries
unfolding computing
returns-clause-entries c = refl

pub returns-clause-count : goal.returns-clause-count
unfolding computing
returns-clause-count c = refl

pub returns-clause-dimension : goal.returns-clause-dimension
unfolding computing
returns-clause-dimension c = refl

pub returns-clause-short : goal.returns-clause-short
unfolding computing
returns-clause-short c = refl

pub returns-clause-empty : goal.returns-clause-empty
unfolding computing
returns-clause-empty c = refl
