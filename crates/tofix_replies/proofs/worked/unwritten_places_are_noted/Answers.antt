use Rattle.std.proofs.Common.{refl}
use Rattle.std.specs.Fmt.{digits}
use Rattle.tofix_replies.proofs.worked.unwritten_places_are_noted.Goals as goal

pub returns : goal.returns
unfolding digits
returns c = record { value = refl; entry = refl; room = refl }
