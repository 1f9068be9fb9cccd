-- The texts of times of day: HH:MM:SS, and a fraction. From the FIX tag-value encoding, datatype UTCTimeOnly. Own
-- profile: at most twelve digits, the four units, and no leap seconds.
use Rattle.std.specs.Prelude.{ℕ, zero, suc, ◌≡◌, ◌⊎◌, ◌+◌, ◌*◌, ◌^◌, ◌<◌, ◌≤◌, ℤ, pos, List, [], ◌∷◌, ◌++◌}
use Rattle.fix_dates.specs.declared.clock.Clock.{Clock}
use Rattle.fix_dates.specs.Digits.{digits}
use Rattle.fix_dates.specs.Reading.{Kind}

-- a point and the digits of the fraction, if it has any
abbrev pub fraction_text : ℕ → ℕ → List ℕ
fraction_text zero fraction = []
fraction_text (suc places) fraction = 46 ∷ digits (suc places) fraction

-- hours, minutes and seconds of two digits each, separated by colons, and the fraction
abbrev pub clock_text : Clock → List ℕ
clock_text clock =
    digits 2 clock.hour ++ (58 ∷ (digits 2 clock.minute ++ (58 ∷ (digits 2 clock.second ++ fraction_text clock.places clock.fraction))))

-- each part fits its digits, and the fraction has at most twelve
pub record FitsClock (clock : Clock) : Type 0 where
  pub hour_fits : clock.hour < 100
  pub minute_fits : clock.minute < 100
  pub second_fits : clock.second < 100
  pub few : clock.places ≤ 12
  pub fraction_fits : clock.fraction < 10 ^ clock.places

-- a time of day: the hour is at most 23, and the minute and the second at most 59
pub record IsTime (clock : Clock) : Type 0 where
  pub hour_high : clock.hour ≤ 23
  pub minute_high : clock.minute ≤ 59
  pub second_high : clock.second ≤ 59

-- the whole seconds since midnight
abbrev pub seconds_of : Clock → ℕ
seconds_of clock = (clock.hour * 60 + clock.minute) * 60 + clock.second

-- the time since midnight, in units of the last place
abbrev pub count_of : Clock → ℕ
count_of clock = seconds_of clock * 10 ^ clock.places + clock.fraction

-- a unit of 10^-unit seconds: seconds, milliseconds, microseconds or nanoseconds
abbrev pub IsUnit : ℕ → Type 0
IsUnit unit = (unit ≡ 0) ⊎ ((unit ≡ 3) ⊎ ((unit ≡ 6) ⊎ (unit ≡ 9)))

-- the fraction has the digits of a unit
pub record InUnit (unit : ℕ) (clock : Clock) : Type 0 where
  pub fits : FitsClock clock
  pub known : IsUnit unit
  pub places_are : clock.places ≡ unit

-- the texts of times in a unit, which stand for how many of the unit have passed since midnight
abbrev pub times_in : ℕ → Kind Clock ℤ
times_in unit = record { text = clock_text; Fits = InUnit unit; Real = IsTime; Stands = λ clock n. pos (count_of clock) ≡ n }
