-- The proleptic Gregorian calendar from the year 0 on, by its own rule. From ISO 8601, the Gregorian calendar; that
-- days are counted from 1 January 1970 is own profile.
use Rattle.std.specs.Prelude.{ℕ, zero, suc, ◌+◌, ◌-◌, ◌%◌, ◌≤◌, Bool, not, ◌&&◌, ◌||◌, ◌==◌, if◌then◌else◌, ℤ, pos, ◌-ℤ◌}
use Rattle.fix_dates.specs.declared.calendar.Day.{Day}

-- Every fourth year has a leap day, but of the years divisible by a hundred only every fourth.
abbrev pub is_leap : ℕ → Bool
is_leap year = (year % 4 == 0) && (not (year % 100 == 0) || (year % 400 == 0))

-- the number of days of a year
abbrev pub year_days : ℕ → ℕ
year_days year = if is_leap year then 366 else 365

-- the number of days of a month, where January is 1
abbrev pub month_days : ℕ → ℕ → ℕ
month_days year month =
    if month == 2 then (if is_leap year then 29 else 28)
    else (if (month == 4) || (month == 6) || (month == 9) || (month == 11) then 30 else 31)

-- the number of days of the years before `year`, from the year 0 on
unfoldable pub days_of_years : ℕ → ℕ
days_of_years zero = 0
days_of_years (suc year) = days_of_years year + year_days year

-- the number of days of the first `month` months of a year
unfoldable pub days_of_months : ℕ → ℕ → ℕ
days_of_months year zero = 0
days_of_months year (suc month) = days_of_months year month + month_days year (suc month)

-- the number of days from the first day of the year 0 to this one
abbrev pub days_before : Day → ℕ
days_before day = days_of_years day.year + (days_of_months day.year (day.month - 1) + (day.day - 1))

-- the day with the number 0
abbrev pub epoch : Day
epoch = record { year = 1970; month = 1; day = 1 }

-- a day's number: how many days it is after 1 January 1970
unfoldable pub number_of : Day → ℤ
number_of day = pos (days_before day) -ℤ pos (days_before epoch)

-- the calendar has the day
pub record IsDay (day : Day) : Type 0 where
  pub month_low : 1 ≤ day.month
  pub month_high : day.month ≤ 12
  pub day_low : 1 ≤ day.day
  pub day_high : day.day ≤ month_days day.year day.month
