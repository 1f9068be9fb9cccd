use Rattle.std.proofs.Common.{refl}
use Rattle.vectors.proofs.Computing.{computing}
use Rattle.vectors.proofs.worked.numbers_are_drawn.Goals as goal

pub returns : goal.returns
unfolding computing
returns c = refl
