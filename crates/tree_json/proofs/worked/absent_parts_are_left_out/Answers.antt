use Rattle.std.proofs.Common.{refl}
use Rattle.tree_json.proofs.Computing.{computing}
use Rattle.tree_json.proofs.worked.absent_parts_are_left_out.Goals as goal

pub returns : goal.returns
unfolding computing
returns c = refl
