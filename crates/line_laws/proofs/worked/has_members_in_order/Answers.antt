use Rattle.std.proofs.Common.{refl}
use Rattle.line_laws.proofs.Computing.{computing}
use Rattle.line_laws.proofs.worked.has_members_in_order.Goals as goal

pub returns : goal.returns
unfolding computing
returns c = refl
