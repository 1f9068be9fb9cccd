use Rattle.std.proofs.Common.{refl}
use Rattle.fix_dates.specs.Calendar.{days_of_years, days_of_months, number_of}
use Rattle.fix_dates.proofs.rows.count_rows.Goals as goal

pub returns-clause-time : goal.returns-clause-time
unfolding number_of days_of_years days_of_months
returns-clause-time c = refl

pub returns-clause-moment : goal.returns-clause-moment
unfolding number_of days_of_years days_of_months
returns-clause-moment c = refl
