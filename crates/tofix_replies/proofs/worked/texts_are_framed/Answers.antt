use Rattle.std.proofs.Common.{refl}
use Rattle.std.specs.Fmt.{digits}
use Rattle.tofix_replies.proofs.worked.texts_are_framed.Goals as goal

pub returns : goal.returns
unfolding digits
returns c = record { frame = refl; verdict = refl; limit = refl }
