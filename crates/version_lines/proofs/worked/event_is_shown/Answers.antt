use Rattle.std.proofs.Common.{refl}
use Rattle.version_lines.proofs.Computing.{computing}
use Rattle.version_lines.proofs.worked.event_is_shown.Goals as goal

pub returns-clause-line : goal.returns-clause-line
unfolding computing
returns-clause-line c = refl

pub returns-clause-answer : goal.returns-clause-answer
unfolding computing
returns-clause-answer c = refl
