use Rattle.std.proofs.Common.{refl}
use Rattle.fix_dates.specs.Digits.{digits}
use Rattle.fix_dates.proofs.rows.text_rows.Goals as goal

pub returns-clause-day : goal.returns-clause-day
unfolding digits
returns-clause-day c = refl

pub returns-clause-time : goal.returns-clause-time
unfolding digits
returns-clause-time c = refl

pub returns-clause-moment : goal.returns-clause-moment
unfolding digits
returns-clause-moment c = refl

pub returns-clause-month : goal.returns-clause-month
unfolding digits
returns-clause-month c = refl
