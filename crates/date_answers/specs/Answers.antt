-- What the texts of days, times of day, moments and months are read as, and the texts of their numbers, as functions:
-- each gives the one answer that the relations of fix_dates allow. From the FIX tag-value encoding, datatypes
-- UTCDateOnly, LocalMktDate, UTCTimeOnly, UTCTimestamp and MonthYear; own profile as there.
use Rattle.std.specs.Prelude.{ℕ, zero, suc, ◌-◌, ◌*◌, ◌/◌, ◌%◌, ◌^◌, min, Bool, true, ◌&&◌, ◌||◌, ◌==◌, nat_lt, nat_le, if◌then◌else◌, List, [], ◌∷◌, length, take, drop, get_or, ℤ, pos, negsuc, ◌+ℤ◌, ◌*ℤ◌, Option, Some, None, Result, Ok, Err}
use native.Mathlib.Omega.{arith}
use Rattle.fix_values.specs.declared.rule.V.{V}
use Rattle.fix_values.specs.declared.rule.V.TheVariants.{Spelling, Range}
use Rattle.fix_values.specs.Decimals.{narrowed}
use Rattle.fix_dates.specs.declared.calendar.Day.{Day}
use Rattle.fix_dates.specs.declared.clock.Clock.{Clock}
use Rattle.fix_dates.specs.declared.clock.TheConstants.{SECONDS_OF_A_DAY}
use Rattle.fix_dates.specs.declared.stamp.Stamp.{Stamp}
use Rattle.fix_dates.specs.declared.moment.Moment.{Moment}
use Rattle.fix_dates.specs.declared.month.Month.{Month}
use Rattle.fix_dates.specs.declared.month.MonthYear.{MonthYear}
use Rattle.fix_dates.specs.declared.month.Part.{Part}
use Rattle.fix_dates.specs.declared.month.Part.TheVariants as part
use Rattle.fix_dates.specs.Digits.{number_in}
use Rattle.fix_dates.specs.Calendar.{year_days, month_days, number_of}
use Rattle.fix_dates.specs.Days.{day_text}
use Rattle.fix_dates.specs.Clocks.{clock_text, count_of}
use Rattle.fix_dates.specs.Stamps.{stamp_text}
use Rattle.fix_dates.specs.Months.{month_text, value_of}

-- ---- reading

-- the answer for parts, if there are any; whether they are in their ranges is checked first
abbrev pub if_in_range : {P X : Type 0} → (P → Bool) → (P → Result X V) → Option P → Result X V
if_in_range real value None = Err Spelling
if_in_range real value (Some p) = if real p then value p else Err Range

-- two results combined, if both are there
abbrev pub both_some_of : {X Y Z : Type 0} → (X → Y → Z) → Option X → Option Y → Option Z
both_some_of f None y = None
both_some_of f (Some x) None = None
both_some_of f (Some x) (Some y) = Some (f x y)

-- a result converted, if it is there
abbrev pub on_some : {X Y : Type 0} → (X → Y) → Option X → Option Y
on_some f None = None
on_some f (Some x) = Some (f x)

-- a year, and a month and day, as a day
abbrev pub as_day : ℕ → ℕ × ℕ → Day
as_day year rest = record { year = year; month = rest.0; day = rest.1 }

-- two numbers as a pair
abbrev pub pair : ℕ → ℕ → ℕ × ℕ
pair a b = (a, b)

-- the parts that eight digits spell
abbrev pub day_parts : List ℕ → Option Day
day_parts text =
    if length text == 8
    then both_some_of as_day (number_in (take 4 text)) (both_some_of pair (number_in (take 2 (drop 4 text))) (number_in (take 2 (drop 6 text))))
    else None

-- the calendar has the day
abbrev pub is_day : Day → Bool
is_day day = nat_le 1 day.month && (nat_le day.month 12 && (nat_le 1 day.day && nat_le day.day (month_days day.year day.month)))

-- the number of the day that a text spells
abbrev pub day_read : List ℕ → Result ℤ V
day_read text = if_in_range is_day (λ day. Ok (number_of day)) (day_parts text)

-- the digits of a fraction as a number, and how many there are
abbrev pub fraction_parts : List ℕ → Option (ℕ × ℕ)
fraction_parts [] = Some (0, 0)
fraction_parts (b ∷ ds) = if (b == 46) && (nat_lt 0 (length ds) && nat_le (length ds) 12) then both_some_of pair (number_in ds) (Some (length ds)) else None

-- hour and minute, and then second, fraction and its places, as a time of day
abbrev pub as_clock : ℕ × ℕ → ℕ × (ℕ × ℕ) → Clock
as_clock front back = record { hour = front.0; minute = front.1; second = back.0; fraction = back.1.0; places = back.1.1 }

-- a second, and a fraction and its places
abbrev pub with_fraction : ℕ → ℕ × ℕ → ℕ × (ℕ × ℕ)
with_fraction a b = (a, b)

-- the parts that the text of a time of day spells
abbrev pub clock_parts : List ℕ → Option Clock
clock_parts text =
    if nat_le 8 (length text) && ((get_or text 2 0 == 58) && (get_or text 5 0 == 58))
    then both_some_of as_clock
    (both_some_of pair (number_in (take 2 text)) (number_in (take 2 (drop 3 text))))
    (both_some_of with_fraction (number_in (take 2 (drop 6 text))) (fraction_parts (drop 8 text)))
    else None

-- the time is one of a day
abbrev pub is_time : Clock → Bool
is_time clock = nat_le clock.hour 23 && (nat_le clock.minute 59 && nat_le clock.second 59)

-- the nanoseconds since a start, and how many digits the fraction of a second has, at most nine
pub record Instant : Type 0 where
  pub nanos : ℤ
  pub digits : ℕ

-- the instant `nanos` nanoseconds after a start, with this many decimal places of a second
abbrev pub instant_at : ℤ → ℕ → ℤ → Instant
instant_at start places nanos = record { nanos = start +ℤ nanos; digits = min 9 places }

-- the same, if there are nanoseconds
abbrev pub instant_from : ℤ → ℕ → Result ℤ V → Result Instant V
instant_from start places (Ok nanos) = Ok (instant_at start places nanos)
instant_from start places (Err v) = Err v

-- the instant of a time of day after a start, if its nanoseconds are whole
abbrev pub clock_instant : ℤ → Clock → Result Instant V
clock_instant start clock = instant_from start clock.places (narrowed (pos (count_of clock * 10 ^ 9)) clock.places)

-- the instant that the text of a time of day spells
abbrev pub time_read : List ℕ → Result Instant V
time_read text = if_in_range is_time (clock_instant (pos 0)) (clock_parts text)

-- a day and a time of day
abbrev pub as_stamp : Day → Clock → Stamp
as_stamp day clock = record { day = day; clock = clock }

-- the instant as a moment of fix_dates
abbrev pub as_moment : Instant → Moment
as_moment i = record { nanos = i.nanos; digits = min 9 i.digits; few = omega arith }

-- an answer with an instant as one with a moment of fix_dates
abbrev pub moment_answer : Result Instant V → Result Moment V
moment_answer (Ok i) = Ok (as_moment i)
moment_answer (Err v) = Err v

-- the parts that a day, a dash and a time of day spell
abbrev pub stamp_parts : List ℕ → Option Stamp
stamp_parts text =
    if nat_le 9 (length text) && (get_or text 8 0 == 45) then both_some_of as_stamp (day_parts (take 8 text)) (clock_parts (drop 9 text)) else None

-- the calendar has the day, and the time is one of a day
abbrev pub is_stamp : Stamp → Bool
is_stamp stamp = is_day stamp.day && is_time stamp.clock

-- the nanoseconds of a number of days
abbrev pub days_long : ℤ → ℤ
days_long days = days *ℤ pos (SECONDS_OF_A_DAY * 10 ^ 9)

-- the instant that a moment's text spells
abbrev pub stamp_read : List ℕ → Result Instant V
stamp_read text = if_in_range is_stamp (λ stamp. clock_instant (days_long (number_of stamp.day)) stamp.clock) (stamp_parts text)

-- the count of units of 10^-unit seconds, if the instant is whole in them
abbrev pub in_unit : ℤ → ℕ → Result ℤ V
in_unit nanos unit = narrowed nanos (9 - unit)

-- nothing, two digits of a day, or `w` and one digit of a week
abbrev pub part_parts : List ℕ → Option Part
part_parts [] = Some part.Whole
part_parts (b ∷ []) = None
part_parts (b ∷ c ∷ []) = if b == 119 then on_some (λ week. part.Week week) (number_in (c ∷ [])) else on_some (λ day. part.Day day) (number_in (b ∷ c ∷ []))
part_parts (b ∷ c ∷ d ∷ more) = None

-- a year, and a month and its part
abbrev pub as_month : ℕ → ℕ × Part → Month
as_month year rest = record { year = year; month = rest.0; part = rest.1 }

-- a month and its part
abbrev pub with_part : ℕ → Part → ℕ × Part
with_part month part = (month, part)

-- the parts that the text of a month spells
abbrev pub month_parts : List ℕ → Option Month
month_parts text =
    if nat_le 6 (length text)
    then both_some_of as_month (number_in (take 4 text)) (both_some_of with_part (number_in (take 2 (drop 4 text))) (part_parts (drop 6 text)))
    else None

-- the month has this part
abbrev pub has_part : ℕ → ℕ → Part → Bool
has_part year month part.Whole = true
has_part year month (part.Day day) = is_day (record { year = year; month = month; day = day })
has_part year month (part.Week week) = nat_le 1 week && nat_le week 5

-- the calendar has the month and the part
abbrev pub is_month : Month → Bool
is_month month = nat_le 1 month.month && (nat_le month.month 12 && has_part month.year month.month month.part)

-- the month that a text spells
abbrev pub month_read : List ℕ → Result MonthYear V
month_read text = if_in_range is_month (λ month. Ok (value_of month)) (month_parts text)

-- ---- showing

-- the text of parts, if there are any that are in their ranges
abbrev pub text_if_in_range : {P : Type 0} → (P → Bool) → (P → List ℕ) → Option P → Result (List ℕ) V
text_if_in_range real text None = Err Range
text_if_in_range real text (Some p) = if real p then Ok (text p) else Err Range

-- the year of the day that is `days` days after the first of this year, and the days left in it; at most the given
-- number of years on
unfoldable pub year_in : ℕ → ℕ → ℕ → ℕ × ℕ
year_in zero year days = (year, days)
year_in (suc more) year days = if nat_lt days (year_days year) then (year, days) else year_in more (suc year) (days - year_days year)

-- the same for the months of a year
unfoldable pub month_in : ℕ → ℕ → ℕ → ℕ → ℕ × ℕ
month_in zero year month days = (month, days)
month_in (suc more) year month days = if nat_lt days (month_days year month) then (month, days) else month_in more year (suc month) (days - month_days year month)

-- the day that is this many days after the first of its year
abbrev pub day_in_year : ℕ × ℕ → Day
day_in_year found =
    let month = month_in 11 found.0 1 found.1 in
    record { year = found.0; month = month.0; day = suc month.1 }

-- the number of days from 1 January of the year 0 to 1 January 1970
abbrev pub days_to_epoch : ℕ
days_to_epoch = 719_528

-- the day this many days after the first of the year 0, if it is in the years 0 to 9999
abbrev pub day_from : ℤ → Option Day
day_from (pos days) = if nat_lt days 3_652_425 then Some (day_in_year (year_in 9999 0 days)) else None
day_from (negsuc n) = None

-- the day with this number, if it is in the years 0 to 9999
abbrev pub day_numbered : ℤ → Option Day
day_numbered n = day_from (n +ℤ pos days_to_epoch)

-- the text of the day with this number
abbrev pub day_shown : ℤ → Result (List ℕ) V
day_shown n = text_if_in_range is_day day_text (day_numbered n)

-- a unit of 10^-unit seconds: unit is 0, 3, 6 or 9
abbrev pub is_unit : ℕ → Bool
is_unit unit = (unit == 0) || ((unit == 3) || ((unit == 6) || (unit == 9)))

-- how many of a unit a day has
abbrev pub units_of_a_day : ℕ → ℕ
units_of_a_day unit = SECONDS_OF_A_DAY * 10 ^ unit

-- the time of day at which `count` units have passed since midnight
abbrev pub clock_at : ℕ → ℕ → Clock
clock_at unit count =
    let seconds = count / 10 ^ unit in
    record { hour = seconds / 3600; minute = seconds / 60 % 60; second = seconds % 60; fraction = count % 10 ^ unit; places = unit }

-- a number from 0 on that is below `end`
abbrev pub number_below : ℤ → ℕ → Option ℕ
number_below (pos n) end = if nat_lt n end then Some n else None
number_below (negsuc n) end = None

-- the time of day at which `count` units have passed since midnight, if there is a count
abbrev pub clock_counted : ℕ → Option ℕ → Option Clock
clock_counted unit count = on_some (clock_at unit) count

-- the text of the time of day at which n units have passed since midnight
abbrev pub time_shown : ℕ → ℤ → Result (List ℕ) V
time_shown unit n = if is_unit unit then text_if_in_range is_time clock_text (clock_counted unit (number_below n (units_of_a_day unit))) else Err Range

-- the whole days of a count, of which a day has `units`; rounded down for a negative count
abbrev pub days_in : ℤ → ℕ → ℤ
days_in (pos n) units = pos (n / units)
days_in (negsuc n) units = negsuc (n / units)

-- the rest of a count after its whole days, each of which has `units`
abbrev pub left_in : ℤ → ℕ → ℕ
left_in (pos n) units = n % units
left_in (negsuc n) units = units - suc (n % units)

-- the text of the moment n units after 1 January 1970
abbrev pub stamp_shown : ℕ → ℤ → Result (List ℕ) V
stamp_shown unit n =
    let units = units_of_a_day unit in
    if is_unit unit
    then text_if_in_range is_stamp stamp_text (both_some_of as_stamp (day_numbered (days_in n units)) (Some (clock_at unit (left_in n units))))
    else Err Range

-- the part of a month: a day or a week or neither, if it fits its digits; not both
abbrev pub part_of : Option ℤ → Option ℤ → Option Part
part_of None None = Some part.Whole
part_of (Some day) None = on_some (λ d. part.Day d) (number_below day 100)
part_of None (Some week) = on_some (λ w. part.Week w) (number_below week 10)
part_of (Some day) (Some week) = None

-- the text of a month
abbrev pub month_shown : MonthYear → Result (List ℕ) V
month_shown m = text_if_in_range is_month month_text (both_some_of as_month (number_below m.year 10000) (both_some_of with_part (number_below m.month 100) (part_of m.day m.week)))

-- ---- units on the wire

-- the coarsest unit with a place for each of these digits
abbrev pub least_unit : ℕ → ℕ
least_unit digits = if nat_le digits 0 then 0 else (if nat_le digits 3 then 3 else (if nat_le digits 6 then 6 else 9))
