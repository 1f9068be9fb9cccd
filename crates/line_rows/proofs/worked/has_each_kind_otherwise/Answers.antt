use Rattle.std.proofs.Common.{refl}
use Rattle.line_rows.proofs.Computing.{computing}
use Rattle.line_rows.proofs.worked.has_each_kind_otherwise.Goals as goal

pub returns : goal.returns
unfolding computing
returns c = refl
