use Rattle.std.proofs.Common.{refl}
use Rattle.std.specs.Fmt.{digits}
use Rattle.fix_messages.proofs.worked.has_one_field.Goals as goal

pub returns : goal.returns
unfolding digits
returns c = refl
