use Rattle.std.proofs.Common.{refl}
use Rattle.std.specs.Fmt.{digits}
use Rattle.fix_messages.proofs.worked.keeps_to_the_limit.Goals as goal

pub returns : goal.returns
unfolding digits
returns c = record { met = refl; passed = refl; typed = refl; numbered = refl }
