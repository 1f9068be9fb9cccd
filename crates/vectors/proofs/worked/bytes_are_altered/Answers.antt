use Rattle.std.proofs.Common.{refl}
use Rattle.vectors.proofs.Computing.{computing}
use Rattle.vectors.proofs.worked.bytes_are_altered.Goals as goal

pub returns : goal.returns
unfolding computing
returns c = record { last = refl; around = refl }
