-- Worked rows, on which the definitions are computed. Own profile.
use Rattle.fix_dates.specs.declared.calendar.Day.{Day}
use Rattle.fix_dates.specs.declared.clock.Clock.{Clock}
use Rattle.fix_dates.specs.declared.month.Month.{Month}
use Rattle.fix_dates.specs.declared.month.Part.TheVariants.{Week}

-- 2 January 1970
abbrev pub second_day : Day
second_day = record { year = 1970; month = 1; day = 2 }

-- a second and a half after midnight, in milliseconds
abbrev pub half_past : Clock
half_past = record { hour = 0; minute = 0; second = 1; fraction = 500; places = 3 }

-- the first week of January 1970
abbrev pub first_week : Month
first_week = record { year = 1970; month = 1; part = Week 1 }
