use Rattle.std.proofs.Common.{refl}
use Rattle.line_laws.proofs.Computing.{computing}
use Rattle.line_laws.proofs.worked.has_a_key_once.Goals as goal

pub returns : goal.returns
unfolding computing
returns c = refl
