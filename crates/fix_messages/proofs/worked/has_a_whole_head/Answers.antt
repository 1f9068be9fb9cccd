use Rattle.std.proofs.Common.{refl}
use Rattle.std.specs.Fmt.{digits}
use Rattle.fix_messages.proofs.worked.has_a_whole_head.Goals as goal

pub returns : goal.returns
unfolding digits
returns c = refl
