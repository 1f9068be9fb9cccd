-- The texts of months: YYYYMM, YYYYMMDD, or YYYYMMw and the digit of a week. From the FIX tag-value encoding, datatype
-- MonthYear.
use Rattle.std.specs.Prelude.{ℕ, ◌≡◌, ◌<◌, ◌≤◌, ℤ, pos, Option, Some, None, List, [], ◌∷◌, ◌++◌}
use Rattle.fix_dates.specs.declared.month.Month.{Month}
use Rattle.fix_dates.specs.declared.month.MonthYear.{MonthYear}
use Rattle.fix_dates.specs.declared.month.Part.{Part}
use Rattle.fix_dates.specs.declared.month.Part.TheVariants as part
use Rattle.fix_dates.specs.Calendar.{IsDay}
use Rattle.fix_dates.specs.Digits.{digits}
use Rattle.fix_dates.specs.Reading.{Kind}

-- nothing, two digits of a day, or `w` and one digit of a week
abbrev pub part_text : Part → List ℕ
part_text part.Whole = []
part_text (part.Day day) = digits 2 day
part_text (part.Week week) = 119 ∷ digits 1 week

-- four digits of the year, two of the month, and the part
abbrev pub month_text : Month → List ℕ
month_text month = digits 4 month.year ++ (digits 2 month.month ++ part_text month.part)

-- the part fits its digits
abbrev pub FitsPart : Part → Type 0
FitsPart part.Whole = Unit {0}
FitsPart (part.Day day) = day < 100
FitsPart (part.Week week) = week < 10

-- each part fits its digits
pub record FitsMonth (parts : Month) : Type 0 where
  pub year_fits : parts.year < 10000
  pub month_fits : parts.month < 100
  pub part_fits : FitsPart parts.part

-- the month has this part: a day by the calendar, or a week from the first to the fifth
abbrev pub HasPart : ℕ → ℕ → Part → Type 0
HasPart year month part.Whole = Unit {0}
HasPart year month (part.Day day) = IsDay (record { year = year; month = month; day = day })
HasPart year month (part.Week week) = (1 ≤ week) × (week ≤ 5)

-- a month from 1 to 12, and a part that it has
pub record IsMonth (parts : Month) : Type 0 where
  pub low : 1 ≤ parts.month
  pub high : parts.month ≤ 12
  pub has : HasPart parts.year parts.month parts.part

-- the day of a part, if it is one
abbrev pub day_part : Part → Option ℤ
day_part part.Whole = None
day_part (part.Day day) = Some (pos day)
day_part (part.Week week) = None

-- the week of a part, if it is one
abbrev pub week_part : Part → Option ℤ
week_part part.Whole = None
week_part (part.Day day) = None
week_part (part.Week week) = Some (pos week)

-- the value of the parts: the year, the month, and the day or the week
abbrev pub value_of : Month → MonthYear
value_of month = record { year = pos month.year; month = pos month.month; day = day_part month.part; week = week_part month.part }

-- the texts of months, which stand for these values
abbrev pub months : Kind Month MonthYear
months = record { text = month_text; Fits = FitsMonth; Real = IsMonth; Stands = λ month value. value_of month ≡ value }
