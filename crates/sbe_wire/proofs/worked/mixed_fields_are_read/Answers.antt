use Rattle.std.proofs.Common.{refl}
use Rattle.sbe_wire.proofs.Computing.{computing}
use Rattle.sbe_wire.proofs.worked.mixed_fields_are_read.Goals as goal

pub returns : goal.returns
unfolding computing
returns c = refl
