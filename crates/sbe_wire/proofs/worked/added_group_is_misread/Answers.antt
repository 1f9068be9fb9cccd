use Rattle.std.proofs.Common.{refl}
use Rattle.sbe_wire.proofs.Computing.{computing}
use Rattle.sbe_wire.proofs.worked.added_group_is_misread.Goals as goal

pub returns : goal.returns
unfolding computing
returns c = refl
