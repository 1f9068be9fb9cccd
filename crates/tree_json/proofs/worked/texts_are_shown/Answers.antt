use Rattle.std.proofs.Common.{refl}
use Rattle.tree_json.proofs.Computing.{computing}
use Rattle.tree_json.proofs.worked.texts_are_shown.Goals as goal

pub returns : goal.returns
unfolding computing
returns c = refl
