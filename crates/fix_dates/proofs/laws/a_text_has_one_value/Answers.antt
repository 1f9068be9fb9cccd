use Rattle.std.proofs.Common.{sym, ap, subst, pos, ◌∙◌}
use Rattle.fix_dates.specs.Calendar.{number_of}
use Rattle.fix_dates.specs.Months.{value_of}
use Rattle.fix_dates.proofs.OneText.{one_day_of_text, one_month_of_text, one_clock_of_text, one_stamp_of_text}
use Rattle.fix_dates.specs.Clocks.{count_of}
use Rattle.fix_dates.specs.Stamps.{times, stamps, stamp_count}
use Rattle.fix_dates.proofs.KindFacts.{one_moment}
use Rattle.fix_dates.proofs.laws.a_text_has_one_value.Goals as goal

pub returns-clause-day : goal.returns-clause-day
returns-clause-day c = λ text m n x y. sym x.stands ∙ (ap number_of (one_day_of_text text x.parts y.parts x.fits y.fits x.spelled y.spelled) ∙ y.stands)

pub returns-clause-month : goal.returns-clause-month
returns-clause-month c = λ text v w x y. sym x.stands ∙ (ap value_of (one_month_of_text text x.parts y.parts x.fits y.fits x.spelled y.spelled) ∙ y.stands)

pub returns-clause-time : goal.returns-clause-time
returns-clause-time c = λ text a b x y.
    let same = one_clock_of_text text y.parts x.parts y.fits x.fits y.spelled x.spelled in
    one_moment (pos (count_of x.parts)) x.parts.places a b x.stands (subst (λ p. times.Stands p b) same y.stands)

pub returns-clause-moment : goal.returns-clause-moment
returns-clause-moment c = λ text a b x y.
    let same = one_stamp_of_text text y.parts x.parts y.fits x.fits y.spelled x.spelled in
    one_moment (stamp_count x.parts) x.parts.clock.places a b x.stands (subst (λ p. stamps.Stands p b) same y.stands)
