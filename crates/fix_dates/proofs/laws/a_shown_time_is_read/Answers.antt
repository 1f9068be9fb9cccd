use Rattle.fix_dates.proofs.KindFacts.{shown_time}
use Rattle.fix_dates.proofs.laws.a_shown_time_is_read.Goals as goal

pub returns : goal.returns
returns c = shown_time
