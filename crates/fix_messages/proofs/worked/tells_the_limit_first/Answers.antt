use Rattle.std.proofs.Common.{refl}
use Rattle.std.specs.Fmt.{digits}
use Rattle.fix_messages.proofs.worked.tells_the_limit_first.Goals as goal

pub returns : goal.returns
unfolding digits
returns c = record { first = refl; later = refl }
