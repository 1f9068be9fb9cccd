use Rattle.std.proofs.Common.{refl}
use Rattle.sbe_wire.proofs.Computing.{computing}
use Rattle.sbe_wire.proofs.worked.trailing_byte_is_refused.Goals as goal

pub returns : goal.returns
unfolding computing
returns c = refl
