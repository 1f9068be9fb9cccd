use Rattle.fix_dates.specs.Days.{days}
use Rattle.fix_dates.specs.Months.{months}
use Rattle.fix_dates.specs.Stamps.{times, stamps}
use Rattle.fix_dates.proofs.KindFacts.{one_refusal}
use Rattle.fix_dates.proofs.OneText.{one_day_of_text, one_month_of_text, one_clock_of_text, one_stamp_of_text}
use Rattle.fix_dates.proofs.laws.a_refused_text_has_one_refusal.Goals as goal

pub returns-clause-day : goal.returns-clause-day
returns-clause-day c = one_refusal days one_day_of_text

pub returns-clause-month : goal.returns-clause-month
returns-clause-month c = one_refusal months one_month_of_text

pub returns-clause-time : goal.returns-clause-time
returns-clause-time c = one_refusal times one_clock_of_text

pub returns-clause-moment : goal.returns-clause-moment
returns-clause-moment c = one_refusal stamps one_stamp_of_text
