-- A text is spelled by one choice of parts, and a value by one text.
use Rattle.std.proofs.Common.{◌≡◌, ℕ, zero, suc, ◌+◌, ◌*◌, ◌/◌, ◌%◌, ◌<◌, ◌^◌, pos, ◌+ℤ◌, ◌*ℤ◌, List, length, take, drop, get_or, refl, sym, ap, ◌∙◌, subst, arith}
use Rattle.std.proofs.lemmas.Nat.{div-mul-add}
use Rattle.std.proofs.lemmas.Option.{same_Some}
use Rattle.jiff_core.specs.declared.civil.date.Date.{Date}
use Rattle.jiff_core.proofs.DateLemmas.{epoch_day_injective}
use Rattle.jiff_core.proofs.SignedLemmas.{signed_arith}
use Rattle.fix_dates.specs.declared.calendar.Day.{Day}
use Rattle.fix_dates.specs.declared.clock.Clock.{Clock}
use Rattle.fix_dates.specs.declared.stamp.Stamp.{Stamp}
use Rattle.fix_dates.specs.declared.month.Month.{Month}
use Rattle.fix_dates.specs.declared.month.Part.{Part}
use Rattle.fix_dates.specs.declared.month.Part.TheVariants as part
use Rattle.fix_dates.specs.Digits.{digits, number_in}
use Rattle.fix_dates.specs.Calendar.{IsDay, number_of}
use Rattle.fix_dates.specs.Days.{day_text, FitsDay}
use Rattle.fix_dates.specs.Clocks.{clock_text, fraction_text, FitsClock, IsTime, count_of}
use Rattle.fix_dates.specs.Stamps.{stamp_text, stamp_count}
use Rattle.fix_dates.specs.Months.{month_text, part_text, day_part, week_part, value_of, FitsMonth, FitsPart}
use Rattle.fix_dates.proofs.DigitFacts.{read_back, length_digits}
use Rattle.fix_dates.proofs.DayFacts.{day_apart}
use Rattle.fix_dates.proofs.ClockFacts.{clock_apart}
use Rattle.fix_dates.proofs.StampFacts.{stamp_apart, count_below, one_day}
use Rattle.fix_dates.proofs.MonthFacts.{month_apart}
use Rattle.fix_dates.proofs.CalendarFacts.{is_civil, number_by}

-- two days with the same parts are one
same_day : (a b : Day) → a.year ≡ b.year → a.month ≡ b.month → a.day ≡ b.day → a ≡ b
same_day a b year month day =
    ap (λ y. record { year = y; month = a.month; day = a.day }) year
    ∙ (ap (λ m. record { year = b.year; month = m; day = a.day }) month
    ∙ ap (λ d. record { year = b.year; month = b.month; day = d }) day)

-- a text is that of one day
pub one_day_of_text : (text : List ℕ) (a b : Day) → FitsDay a → FitsDay b → text ≡ day_text a → text ≡ day_text b → a ≡ b
one_day_of_text text a b first second x y =
    let p = day_apart text a first x in
    let q = day_apart text b second y in
    same_day a b
    (same_Some a.year b.year (sym p.year_read ∙ q.year_read))
    (same_Some a.month b.month (sym p.month_read ∙ q.month_read))
    (same_Some a.day b.day (sym p.number_read ∙ q.number_read))

-- numbers with the same digits in as many places are one
same_digits : (places m n : ℕ) → m < 10 ^ places → n < 10 ^ places → digits places m ≡ digits places n → m ≡ n
same_digits places m n first second e =
    same_Some m n (sym (read_back places m first) ∙ (ap number_in e ∙ read_back places n second))

-- a text is that of one fraction
one_fraction : (p f q g : ℕ) → f < 10 ^ p → g < 10 ^ q → fraction_text p f ≡ fraction_text q g → (p ≡ q) × (f ≡ g)
one_fraction zero f zero g first second e = (refl, omega arith)
one_fraction zero f (suc q) g first second e = absurd (omega (arith, ap length e))
one_fraction (suc p) f zero g first second e = absurd (omega (arith, ap length e))
one_fraction (suc p) f (suc q) g first second e =
    let places : p ≡ q = omega (arith, ap length e, length_digits (suc p) f, length_digits (suc q) g) in
    let after : digits (suc p) f ≡ digits (suc q) g = ap (drop 1) e in
    let back : suc q ≡ suc p = ap suc (sym places) in
    let other : g < 10 ^ suc p = subst (λ k. g < 10 ^ k) back second in
    (ap suc places, same_digits (suc p) f g first other (after ∙ ap (λ k. digits k g) back))

-- two times of day with the same parts are one
same_clock : (a b : Clock) → a.hour ≡ b.hour → a.minute ≡ b.minute → a.second ≡ b.second → a.fraction ≡ b.fraction → a.places ≡ b.places → a ≡ b
same_clock a b hour minute second fraction places =
    ap (λ x. record { hour = x; minute = a.minute; second = a.second; fraction = a.fraction; places = a.places }) hour
    ∙ (ap (λ x. record { hour = b.hour; minute = x; second = a.second; fraction = a.fraction; places = a.places }) minute
    ∙ (ap (λ x. record { hour = b.hour; minute = b.minute; second = x; fraction = a.fraction; places = a.places }) second
    ∙ (ap (λ x. record { hour = b.hour; minute = b.minute; second = b.second; fraction = x; places = a.places }) fraction
    ∙ ap (λ x. record { hour = b.hour; minute = b.minute; second = b.second; fraction = b.fraction; places = x }) places)))

-- a text is that of one time of day
pub one_clock_of_text : (text : List ℕ) (a b : Clock) → FitsClock a → FitsClock b → text ≡ clock_text a → text ≡ clock_text b → a ≡ b
one_clock_of_text text a b first second x y =
    let p = clock_apart text a first x in
    let q = clock_apart text b second y in
    let rest = one_fraction a.places a.fraction b.places b.fraction first.fraction_fits second.fraction_fits (sym p.rest ∙ q.rest) in
    same_clock a b
    (same_Some a.hour b.hour (sym p.hour_read ∙ q.hour_read))
    (same_Some a.minute b.minute (sym p.minute_read ∙ q.minute_read))
    (same_Some a.second b.second (sym p.second_read ∙ q.second_read))
    rest.1 rest.0

same_stamp : (a b : Stamp) → a.day ≡ b.day → a.clock ≡ b.clock → a ≡ b
same_stamp a b day clock = ap (λ d. record { day = d; clock = a.clock }) day ∙ ap (λ c. record { day = b.day; clock = c }) clock

-- a text is that of one moment
pub one_stamp_of_text : (text : List ℕ) (a b : Stamp) → FitsDay a.day × FitsClock a.clock → FitsDay b.day × FitsClock b.clock → text ≡ stamp_text a → text ≡ stamp_text b → a ≡ b
one_stamp_of_text text a b first second x y =
    let p = stamp_apart text a x in
    let q = stamp_apart text b y in
    same_stamp a b
    (one_day_of_text (take 8 text) a.day b.day first.0 second.0 p.day_first q.day_first)
    (one_clock_of_text (drop 9 text) a.clock b.clock first.1 second.1 p.clock_last q.clock_last)

-- a text is that of one part of a month
one_part : (p q : Part) → FitsPart p → FitsPart q → part_text p ≡ part_text q → p ≡ q
unfolding digits
one_part part.Whole part.Whole first second e = refl
one_part part.Whole (part.Day day) first second e = absurd (omega (arith, ap length e))
one_part part.Whole (part.Week week) first second e = absurd (omega (arith, ap length e))
one_part (part.Day day) part.Whole first second e = absurd (omega (arith, ap length e))
one_part (part.Day m) (part.Day n) first second e = ap part.Day (same_digits 2 m n first second e)
one_part (part.Day m) (part.Week week) first second e = absurd (let letter : 48 + m / 10 % 10 ≡ 119 = ap (λ xs. get_or xs 0 0) e in omega arith)
one_part (part.Week week) part.Whole first second e = absurd (omega (arith, ap length e))
one_part (part.Week week) (part.Day m) first second e = absurd (let letter : 119 ≡ 48 + m / 10 % 10 = ap (λ xs. get_or xs 0 0) e in omega arith)
one_part (part.Week m) (part.Week n) first second e = ap part.Week (same_digits 1 m n first second (ap (drop 1) e))

same_month : (a b : Month) → a.year ≡ b.year → a.month ≡ b.month → a.part ≡ b.part → a ≡ b
same_month a b year month part =
    ap (λ y. record { year = y; month = a.month; part = a.part }) year
    ∙ (ap (λ m. record { year = b.year; month = m; part = a.part }) month
    ∙ ap (λ p. record { year = b.year; month = b.month; part = p }) part)

-- a text is that of one month
pub one_month_of_text : (text : List ℕ) (a b : Month) → FitsMonth a → FitsMonth b → text ≡ month_text a → text ≡ month_text b → a ≡ b
one_month_of_text text a b first second x y =
    let p = month_apart text a first x in
    let q = month_apart text b second y in
    same_month a b
    (same_Some a.year b.year (sym p.year_read ∙ q.year_read))
    (same_Some a.month b.month (sym p.month_read ∙ q.month_read))
    (one_part a.part b.part first.part_fits second.part_fits (sym p.rest ∙ q.rest))

-- jiff's date of a day
date_of : (day : Day) → IsDay day → day.year < 10000 → Date
date_of day real within =
    let civil = is_civil day real within in
    record { year = pos day.year; month = day.month; day = day.day; year_in = civil.0; month_in = civil.1; day_in = civil.2 }

-- a number is that of one day
pub one_day_of_number : (a b : Day) → IsDay a → IsDay b → a.year < 10000 → b.year < 10000 → number_of a ≡ number_of b → a ≡ b
unfolding date_of
one_day_of_number a b first second x y e =
    let same = epoch_day_injective (date_of a first x) (date_of b second y)
    (sym (number_by a (date_of a first x) refl refl refl) ∙ (e ∙ number_by b (date_of b second y) refl refl refl)) in
    same_day a b (omega (arith, signed_arith, same.0)) same.1 same.2

-- a count in a unit is that of one time of day
pub one_clock_of_count : (a b : Clock) → FitsClock a → FitsClock b → IsTime a → IsTime b → a.places ≡ b.places → count_of a ≡ count_of b → a ≡ b
one_clock_of_count a b first second x y places e =
    let power = 10 ^ a.places in
    let m = (a.hour * 60 + a.minute) * 60 + a.second in
    let n = (b.hour * 60 + b.minute) * 60 + b.second in
    let other : b.fraction < power = subst (λ k. b.fraction < 10 ^ k) (sym places) second.fraction_fits in
    let count : m * power + a.fraction ≡ n * power + b.fraction = subst (λ k. count_of a ≡ n * 10 ^ k + b.fraction) (sym places) e in
    let seconds : m ≡ n = sym (div-mul-add m power a.fraction first.fraction_fits) ∙ (ap (λ k. k / power) count ∙ div-mul-add n power b.fraction other) in
    let scaled : m * power ≡ n * power = ap (λ k. k * power) seconds in
    let fraction : a.fraction ≡ b.fraction = omega arith in
    same_clock a b
    (omega (arith, x.minute_high, x.second_high, y.minute_high, y.second_high))
    (omega (arith, x.minute_high, x.second_high, y.minute_high, y.second_high))
    (omega (arith, x.minute_high, x.second_high, y.minute_high, y.second_high))
    fraction places

-- a count in a unit is that of one moment
pub one_stamp_of_count : (a b : Stamp) → FitsDay a.day × FitsClock a.clock → FitsDay b.day × FitsClock b.clock → IsDay a.day × IsTime a.clock → IsDay b.day × IsTime b.clock → a.clock.places ≡ b.clock.places → stamp_count a ≡ stamp_count b → a ≡ b
one_stamp_of_count a b first second x y places e =
    let units = 86_400 * 10 ^ a.clock.places in
    let other : count_of b.clock < units = subst (λ k. count_of b.clock < 86_400 * 10 ^ k) (sym places) (count_below b.clock second.1 y.1) in
    let count : (number_of a.day *ℤ pos units) +ℤ pos (count_of a.clock) ≡ (number_of b.day *ℤ pos units) +ℤ pos (count_of b.clock) =
    e ∙ subst (λ k. stamp_count b ≡ (number_of b.day *ℤ pos (86_400 * 10 ^ k)) +ℤ pos (count_of b.clock)) (sym places) refl in
    let numbers = one_day units (number_of a.day) (number_of b.day) (count_of a.clock) (count_of b.clock) (count_below a.clock first.1 x.1) other count in
    let days : number_of a.day *ℤ pos units ≡ number_of b.day *ℤ pos units = ap (λ z. z *ℤ pos units) numbers in
    let times : count_of a.clock ≡ count_of b.clock = omega (arith, signed_arith) in
    same_stamp a b
    (one_day_of_number a.day b.day x.0 y.0 first.0.year second.0.year numbers)
    (one_clock_of_count a.clock b.clock first.1 second.1 x.1 y.1 places times)

-- two whole numbers that are equal as signed ones
pub same_pos : (m n : ℕ) → pos m ≡ pos n → m ≡ n
same_pos m n e = omega (arith, signed_arith)

-- a part is that of one day and one week
one_part_of_value : (p q : Part) → day_part p ≡ day_part q → week_part p ≡ week_part q → p ≡ q
one_part_of_value part.Whole part.Whole day week = refl
one_part_of_value part.Whole (part.Day n) day week = absurd (cc)
one_part_of_value part.Whole (part.Week n) day week = absurd (cc)
one_part_of_value (part.Day m) part.Whole day week = absurd (cc)
one_part_of_value (part.Day m) (part.Day n) day week = ap part.Day (same_pos m n (same_Some (pos m) (pos n) day))
one_part_of_value (part.Day m) (part.Week n) day week = absurd (cc)
one_part_of_value (part.Week m) part.Whole day week = absurd (cc)
one_part_of_value (part.Week m) (part.Day n) day week = absurd (cc)
one_part_of_value (part.Week m) (part.Week n) day week = ap part.Week (same_pos m n (same_Some (pos m) (pos n) week))

-- a value is that of one month
pub one_month_of_value : (a b : Month) → value_of a ≡ value_of b → a ≡ b
one_month_of_value a b e =
    same_month a b
    (same_pos a.year b.year (ap (λ v. v.year) e))
    (same_pos a.month b.month (ap (λ v. v.month) e))
    (one_part_of_value a.part b.part (ap (λ v. v.day) e) (ap (λ v. v.week) e))
