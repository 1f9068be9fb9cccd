use Rattle.std.proofs.Common.{sym, ap, ◌∙◌}
use Rattle.fix_dates.specs.Days.{day_text}
use Rattle.fix_dates.specs.Clocks.{clock_text}
use Rattle.fix_dates.specs.Stamps.{stamp_text}
use Rattle.fix_dates.specs.Months.{month_text}
use Rattle.fix_dates.proofs.OneText.{one_day_of_number, one_clock_of_count, one_stamp_of_count, one_month_of_value, same_pos}
use Rattle.fix_dates.proofs.laws.a_value_has_one_text.Goals as goal

pub returns-clause-day : goal.returns-clause-day
returns-clause-day c = λ n a b x y.
    let same = one_day_of_number x.parts y.parts x.real y.real x.fits.year y.fits.year (x.stands ∙ sym y.stands) in
    x.spelled ∙ (ap day_text same ∙ sym y.spelled)

pub returns-clause-month : goal.returns-clause-month
returns-clause-month c = λ value a b x y.
    let same = one_month_of_value x.parts y.parts (x.stands ∙ sym y.stands) in
    x.spelled ∙ (ap month_text same ∙ sym y.spelled)

pub returns-clause-time : goal.returns-clause-time
returns-clause-time c = λ n unit a b x y.
    let counts = x.stands ∙ sym y.stands in
    let same = one_clock_of_count x.parts y.parts x.fits.fits y.fits.fits x.real y.real (x.fits.places_are ∙ sym y.fits.places_are) (same_pos _ _ counts) in
    x.spelled ∙ (ap clock_text same ∙ sym y.spelled)

pub returns-clause-moment : goal.returns-clause-moment
returns-clause-moment c = λ n unit a b x y.
    let same = one_stamp_of_count x.parts y.parts (x.fits.0, x.fits.1.fits) (y.fits.0, y.fits.1.fits) x.real y.real (x.fits.1.places_are ∙ sym y.fits.1.places_are) (x.stands ∙ sym y.stands) in
    x.spelled ∙ (ap stamp_text same ∙ sym y.spelled)
