use Rattle.std.proofs.Common.{refl}
use Rattle.line_laws.proofs.Computing.{computing}
use Rattle.line_laws.proofs.worked.has_members_as_listed.Goals as goal

pub returns : goal.returns
unfolding computing
returns c = refl
