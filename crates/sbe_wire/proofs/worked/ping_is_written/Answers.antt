use Rattle.std.proofs.Common.{refl}
use Rattle.sbe_wire.proofs.Computing.{computing}
use Rattle.sbe_wire.proofs.worked.ping_is_written.Goals as goal

pub returns : goal.returns
unfolding computing
returns c = refl
