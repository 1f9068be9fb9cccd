use Rattle.std.proofs.Common.{refl}
use Rattle.level_skip.proofs.Computing.{computing}
use Rattle.level_skip.proofs.worked.blocks_are_passed_by_their_length.Goals as goal

pub returns-clause-unjudged : goal.returns-clause-unjudged
unfolding computing
returns-clause-unjudged c = refl

pub returns-clause-below : goal.returns-clause-below
unfolding computing
returns-clause-below c = refl

pub returns-clause-above : goal.returns-clause-above
unfolding computing
returns-clause-above c = refl

pub returns-clause-cut : goal.returns-clause-cut
unfolding computing
returns-clause-cut c = refl
