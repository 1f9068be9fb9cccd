use Rattle.fix_dates.proofs.CalendarFacts.{numbers_agree}
use Rattle.fix_dates.proofs.laws.calendars_agree.Goals as goal

pub returns : goal.returns
returns c = λ day real within. numbers_agree day real.day_low
