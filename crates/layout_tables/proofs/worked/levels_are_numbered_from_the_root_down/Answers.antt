use Rattle.std.proofs.Common.{refl}
use Rattle.layout_tables.proofs.Computing.{computing}
use Rattle.layout_tables.proofs.worked.levels_are_numbered_from_the_root_down.Goals as goal

pub returns : goal.returns
unfolding computing
returns c = refl
