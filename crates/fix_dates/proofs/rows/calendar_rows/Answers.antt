use Rattle.std.proofs.Common.{refl}
use Rattle.fix_dates.specs.Calendar.{days_of_years, days_of_months, number_of}
use Rattle.fix_dates.proofs.rows.calendar_rows.Goals as goal

pub returns-clause-century : goal.returns-clause-century
unfolding number_of days_of_years days_of_months
returns-clause-century c = refl

pub returns-clause-fourth_century : goal.returns-clause-fourth_century
unfolding number_of days_of_years days_of_months
returns-clause-fourth_century c = refl

pub returns-clause-first : goal.returns-clause-first
unfolding number_of days_of_years days_of_months
returns-clause-first c = refl

pub returns-clause-epoch : goal.returns-clause-epoch
unfolding number_of days_of_years days_of_months
returns-clause-epoch c = refl

pub returns-clause-second : goal.returns-clause-second
unfolding number_of days_of_years days_of_months
returns-clause-second c = refl

pub returns-clause-leap_day : goal.returns-clause-leap_day
unfolding number_of days_of_years days_of_months
returns-clause-leap_day c = refl

pub returns-clause-last : goal.returns-clause-last
unfolding number_of days_of_years days_of_months
returns-clause-last c = refl
