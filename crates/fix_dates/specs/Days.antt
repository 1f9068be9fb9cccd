-- The texts of days: eight digits, YYYYMMDD. From the FIX tag-value encoding, datatypes UTCDateOnly and LocalMktDate.
use Rattle.std.specs.Prelude.{ℕ, ◌≡◌, ◌<◌, ℤ, List, ◌++◌}
use Rattle.fix_dates.specs.declared.calendar.Day.{Day}
use Rattle.fix_dates.specs.Digits.{digits}
use Rattle.fix_dates.specs.Calendar.{IsDay, number_of}
use Rattle.fix_dates.specs.Reading.{Kind}

-- four digits of the year, two of the month and two of the day
abbrev pub day_text : Day → List ℕ
day_text day = digits 4 day.year ++ (digits 2 day.month ++ digits 2 day.day)

-- each part fits its digits
pub record FitsDay (parts : Day) : Type 0 where
  pub year : parts.year < 10000
  pub month : parts.month < 100
  pub day : parts.day < 100

-- the texts of days, which stand for the days' numbers
abbrev pub days : Kind Day ℤ
days = record { text = day_text; Fits = FitsDay; Real = IsDay; Stands = λ day n. number_of day ≡ n }
