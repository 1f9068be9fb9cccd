-- One name for all that a worked row opens.
use Rattle.std.specs.Fmt.{digits}
use Rattle.fix_dates.specs.Digits as places
use Rattle.fix_dates.specs.Calendar as calendar
use Rattle.date_answers.specs.Answers as answers

unfoldable pub computing : Unit {0}
unfolding digits places.digits places.number_after calendar.days_of_years calendar.days_of_months calendar.number_of answers.year_in answers.month_in
computing = tt
