use Rattle.fix_dates.proofs.KindFacts.{shown_stamp}
use Rattle.fix_dates.proofs.laws.a_shown_moment_is_read.Goals as goal

pub returns : goal.returns
returns c = shown_stamp
