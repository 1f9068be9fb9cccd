-- The calendar by its own rule is the calendar by which jiff counts days.
use Rattle.std.proofs.Common.{◌≡◌, ℕ, zero, suc, ◌+◌, ◌-◌, ◌<◌, ◌≤◌, refl, sym, ap, arith, ℤ, pos, neg_ℤ, ◌≤ℤ◌, negsuc, unsigned_abs, subst, to_z, of_z, w16, Fits}
use Rattle.std.proofs.lemmas.Int.{by_lt_z}
use lib.Dec.{T}
use lib.Signed.{non_neg}
use lib.IntN.{nat_abs}
use Rattle.jiff_core.specs.declared.civil.date.Date.{Date}
use Rattle.jiff_core.specs.Calendar.{day_count, days_from_civil, IsCivilDate, IsEpochDay, IsDate}
use Rattle.jiff_core.specs.Calendar as jiff
use Rattle.jiff_core.specs.Date.{epoch_day}
use Rattle.jiff_core.proofs.SignedLemmas.{signed_arith, back_small}
use Rattle.jiff_core.proofs.CalendarLemmas.{days_from_civil-day_count, day_count_bounds, day_count-lt_year, day_count-day_of_year, day_count-next_year, day_count-epoch}
use Rattle.jiff_core.proofs.MarchLemmas.{day_count-early}
use Rattle.jiff_core.proofs.DateLemmas.{civil}
use borrow.Author.Differences.{up, down}
use Rattle.fix_dates.specs.declared.calendar.Day.{Day}
use Rattle.fix_dates.specs.Calendar.{month_days, days_of_years, days_of_months, days_before, epoch, number_of, IsDay}

-- the months of a year have the same lengths
pub months_agree : (year month : ℕ) → jiff.days_of_months (pos year) month ≡ days_of_months year month
unfolding days_of_months jiff.days_of_months
months_agree year zero = refl
months_agree year (suc month) = ap (λ n. n + month_days year (suc month)) (months_agree year month)

-- the years from 0 on have the same lengths, and 3652425 days of jiff's count lie before them
pub years_agree : (year : ℕ) → day_count (pos year) 1 1 ≡ 3_652_425 + days_of_years year
unfolding days_of_years
years_agree zero = day_count-early (pos 0) 9999 1 1 refl (omega arith) (omega arith) (omega arith)
years_agree (suc year) =
    omega (arith, years_agree year, day_count-next_year (pos year) (pos (suc year)) (omega (arith, signed_arith)) (omega (arith, signed_arith)))

-- and so have the days
pub days_agree : (day : Day) → 1 ≤ day.day → day_count (pos day.year) day.month day.day ≡ 3_652_425 + days_before day
days_agree day first =
    omega (arith, day_count-day_of_year (pos day.year) day.month day.day first, years_agree day.year, months_agree day.year (day.month - 1))

epoch_before : days_before epoch ≡ 719_528
unfolding days_of_months
epoch_before = omega (arith, years_agree 1970, day_count-epoch)

-- a day's number is that of jiff
pub numbers_agree : (day : Day) → 1 ≤ day.day → number_of day ≡ days_from_civil (pos day.year) day.month day.day
unfolding number_of
numbers_agree day first = omega (arith, signed_arith, epoch_before, days_agree day first, days_from_civil-day_count (pos day.year) day.month day.day)

-- a number and the days since the year 0
pub number_before : (day : Day) → up (number_of day) + 719_528 ≡ down (number_of day) + days_before day
unfolding number_of
number_before day = omega (arith, signed_arith, epoch_before)

-- a day of the calendar is one of jiff's where its year is
pub is_civil : (day : Day) → IsDay day → day.year < 10000 → IsCivilDate (pos day.year) day.month day.day
is_civil day real within = ((omega (arith, signed_arith), omega (arith, signed_arith)), (real.month_low, real.month_high), (real.day_low, real.day_high))

-- the numbers of the days of the years 0 to 9999
pub number_range : (day : Day) → IsDay day → day.year < 10000 → (neg_ℤ (pos 719_528) ≤ℤ number_of day) × (number_of day ≤ℤ pos 2_932_896)
number_range day real within =
    let count = days_agree day real.day_low in
    let bounds = day_count_bounds (pos day.year) day.month day.day (is_civil day real within) in
    let number = number_before day in
    (omega (arith, signed_arith), omega (arith, signed_arith))

-- from the first of them on jiff's years aren't negative
pub year_not_negative : (d : Date) → neg_ℤ (pos 719_528) ≤ℤ epoch_day d → pos 0 ≤ℤ d.year
unfolding days_of_years
year_not_negative d low =
    let none : days_of_years 0 ≡ 0 = refl in
    by_lt_z d.year (pos 0)
    (λ lt. absurd (omega (arith, signed_arith, day_count-lt_year d.year d.month d.day (pos 0) 1 1 (civil d) (omega arith) lt, days_from_civil-day_count d.year d.month d.day, years_agree 0)))
    (λ le. le)

-- a number that isn't negative is its size
pub size_of : (z : ℤ) → pos 0 ≤ℤ z → pos (unsigned_abs z) ≡ z
size_of (pos n) low = refl
size_of (negsuc n) low = absurd (omega (arith, signed_arith))

-- the day that jiff's date is
abbrev pub day_by : Date → Day
day_by d = record { year = unsigned_abs d.year; month = d.month; day = d.day }

-- from the year 0 on it has the date's number
pub same_number : (d : Date) → neg_ℤ (pos 719_528) ≤ℤ epoch_day d → number_of (day_by d) ≡ epoch_day d
same_number d low =
    rw (size_of d.year (year_not_negative d low)) at (numbers_agree (day_by d) d.day_in.0)

-- and is a day of the calendar
pub same_day : (d : Date) → neg_ℤ (pos 719_528) ≤ℤ epoch_day d → IsDay (day_by d) × (unsigned_abs d.year < 10000)
same_day d low =
    let P : ℤ → Type 0 = λ y. d.day ≤ jiff.days_in_month y d.month in
    let same = size_of d.year (year_not_negative d low) in
    (record { month_low = d.month_in.0; month_high = d.month_in.1; day_low = d.day_in.0; day_high = subst P (sym same) d.day_in.1 }, omega (arith, signed_arith, d.year_in))

-- jiff's year fits an unsigned number, which it is
pub year_fits : (z : ℤ) → pos 0 ≤ℤ z → z ≤ℤ pos 9999 → to_z w16 (of_z w16 z) ≡ z
year_fits (pos n) low high = back_small w16 (pos n) (omega (arith, signed_arith))
year_fits (negsuc n) low high = absurd (omega (arith, signed_arith))

-- a date with a day's year, month and day has its number
pub number_by : (day : Day) (d : Date) → d.year ≡ pos day.year → d.month ≡ day.month → d.day ≡ day.day → number_of day ≡ epoch_day d
number_by day d year month number =
    let first : 1 ≤ day.day = omega (arith, d.day_in.0) in
    rw (year, month, number) (numbers_agree day first)

-- so it can be cast to one
pub size_fits : (z : ℤ) → pos 0 ≤ℤ z → z ≤ℤ pos 9999 → T (non_neg z) × Fits w16 (nat_abs z)
size_fits (pos n) low high = (tt, omega (arith, signed_arith))
size_fits (negsuc n) low high = absurd (omega (arith, signed_arith))
