-- The texts of moments, a day and a time of day, and the moments that texts are read as. From the FIX tag-value
-- encoding, datatype UTCTimestamp; that moments are nanoseconds from 1 January 1970 is own profile.
use Rattle.std.specs.Prelude.{ℕ, ◌≡◌, ◌*◌, ◌^◌, min, ℤ, pos, ◌+ℤ◌, ◌*ℤ◌, Result, Ok, Err, List, ◌∷◌, ◌++◌}
use Rattle.fix_values.specs.declared.rule.V.{V}
use Rattle.fix_values.specs.declared.rule.V.TheVariants.{Spelling, Range, Inexact, Soh, Empty, UnknownCode}
use Rattle.fix_dates.specs.declared.clock.Clock.{Clock}
use Rattle.fix_dates.specs.declared.clock.TheConstants.{SECONDS_OF_A_DAY}
use Rattle.fix_dates.specs.declared.moment.Moment.{Moment}
use Rattle.fix_dates.specs.declared.stamp.Stamp.{Stamp}
use Rattle.fix_dates.specs.Calendar.{IsDay, number_of}
use Rattle.fix_dates.specs.Reading.{Kind}
use Rattle.fix_dates.specs.Days.{day_text, FitsDay}
use Rattle.fix_dates.specs.Clocks.{clock_text, FitsClock, IsTime, InUnit, count_of}

-- the eight digits of the day, a dash, and the time
abbrev pub stamp_text : Stamp → List ℕ
stamp_text stamp = day_text stamp.day ++ (45 ∷ clock_text stamp.clock)

-- the time since 1 January 1970, in units of the last place
abbrev pub stamp_count : Stamp → ℤ
stamp_count stamp = (number_of stamp.day *ℤ pos (SECONDS_OF_A_DAY * 10 ^ stamp.clock.places)) +ℤ pos (count_of stamp.clock)

-- the day is one of the calendar, and the time is one of a day
abbrev pub IsStamp : Stamp → Type 0
IsStamp stamp = IsDay stamp.day × IsTime stamp.clock

-- the texts of stamps in a unit, which stand for how many of the unit they are after 1 January 1970
abbrev pub stamps_in : ℕ → Kind Stamp ℤ
stamps_in unit = record {
  text = stamp_text;
  Fits = λ stamp. FitsDay stamp.day × InUnit unit stamp.clock;
  Real = IsStamp;
  Stands = λ stamp n. stamp_count stamp ≡ n;
}

-- A number of nanoseconds is as long as a count of units of 10^-places seconds.
abbrev pub SameTime : ℤ → ℤ → ℕ → Type 0
SameTime nanos count places = nanos *ℤ pos (10 ^ places) ≡ count *ℤ pos (10 ^ 9)

-- the moment of a count of units of the last place, with its number of digits, at most nine
abbrev pub IsMoment : ℤ → ℕ → Moment → Type 0
IsMoment count places moment = SameTime moment.nanos count places × (moment.digits ≡ min 9 places)

-- the texts of times of day, which stand for moments since midnight
abbrev pub times : Kind Clock Moment
times = record { text = clock_text; Fits = FitsClock; Real = IsTime; Stands = λ clock. IsMoment (pos (count_of clock)) clock.places }

-- the texts of stamps, which stand for moments since 1 January 1970
abbrev pub stamps : Kind Stamp Moment
stamps = record {
  text = stamp_text;
  Fits = λ stamp. FitsDay stamp.day × FitsClock stamp.clock;
  Real = IsStamp;
  Stands = λ stamp. IsMoment (stamp_count stamp) stamp.clock.places;
}

-- What fitting a moment into a unit answers: the exact count of the unit, or that it isn't whole in it.
abbrev pub FitsIn : Moment → ℕ → Result ℤ V → Type 0
FitsIn moment unit (Ok n) = SameTime moment.nanos n unit
FitsIn moment unit (Err Spelling) = ⊥
FitsIn moment unit (Err Range) = ⊥
FitsIn moment unit (Err Inexact) = (n : ℤ) → ¬ (SameTime moment.nanos n unit)
FitsIn moment unit (Err Soh) = ⊥
FitsIn moment unit (Err Empty) = ⊥
FitsIn moment unit (Err UnknownCode) = ⊥
