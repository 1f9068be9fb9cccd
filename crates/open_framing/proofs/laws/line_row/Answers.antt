use Rattle.std.proofs.Common.{refl}
use Rattle.open_framing.proofs.Computing.{computing}
use Rattle.open_framing.proofs.laws.line_row.Goals as goal

pub returns : goal.returns
unfolding computing
returns c = refl
