use Rattle.std.proofs.Common.{refl}
use Rattle.std.specs.Fmt.{digits}
use Rattle.tofix_replies.proofs.worked.uncovered_templates_are_noted.Goals as goal

pub returns : goal.returns
unfolding digits
returns c = record { message = refl; part = refl }
