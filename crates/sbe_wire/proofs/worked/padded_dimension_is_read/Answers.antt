use Rattle.std.proofs.Common.{refl}
use Rattle.sbe_wire.proofs.Computing.{computing}
use Rattle.sbe_wire.proofs.worked.padded_dimension_is_read.Goals as goal

pub returns : goal.returns
unfolding computing
returns c = refl
