-- What is shown spells its number, and where nothing is shown no text does.
use Rattle.std.proofs.Common.{◌≡◌, inl, inr, ℕ, zero, suc, ◌+◌, ◌-◌, ◌*◌, ◌/◌, ◌%◌, ◌^◌, ◌<◌, ◌≤◌, Bool, true, false, cond, Option, Some, None, Result, Ok, Err, List, refl, sym, ap, ◌∙◌, subst, arith, ℤ, pos, negsuc, ◌+ℤ◌, ◌*ℤ◌, ◌≤ℤ◌}
use Rattle.std.specs.Prelude.{◌==◌, nat_lt}
use Rattle.std.proofs.Math.Nat.{one-le-pow, div-add-mod', mod-lt}
use Rattle.std.proofs.lemmas.Bool.{eqb-true}
use Rattle.std.proofs.lemmas.Bool.Decides.{nat_tests}
use Rattle.jiff_core.proofs.SignedLemmas.{signed_arith}
use Rattle.fix_values.specs.declared.rule.V.{V}
use Rattle.fix_values.specs.declared.rule.V.TheVariants.{Range}
use Rattle.fix_dates.specs.declared.calendar.Day.{Day}
use Rattle.fix_dates.specs.declared.stamp.Stamp.{Stamp}
use Rattle.fix_dates.specs.Calendar.{is_leap, year_days, month_days, days_of_years, days_of_months, days_before, number_of, IsDay}
use Rattle.fix_dates.specs.declared.month.MonthYear.{MonthYear}
use Rattle.fix_dates.specs.declared.month.Part.{Part}
use Rattle.fix_dates.specs.declared.month.Part.TheVariants as part
use Rattle.fix_dates.specs.Months.{months, month_text, day_part, week_part, FitsPart, IsMonth}
use Rattle.fix_dates.specs.Reading.{Spells}
use Rattle.fix_dates.specs.Days.{days, day_text}
use Rattle.fix_dates.specs.Clocks.{times_in, clock_text, count_of, InUnit, IsTime, IsUnit}
use Rattle.fix_dates.specs.Stamps.{stamps_in, stamp_text}
use Rattle.fix_dates.proofs.CalendarFacts.{number_before, number_range}
use Rattle.fix_dates.proofs.StampFacts.{day_fits, count_below, one_day}
use Rattle.date_answers.specs.Answers.{text_if_in_range, year_in, month_in, day_in_year, day_from, day_numbered, day_shown, is_day, is_unit, units_of_a_day, clock_at, number_below, clock_counted, time_shown, days_in, left_in, stamp_shown, is_time, is_stamp, both_some_of, as_stamp, part_of, on_some, month_shown, as_month, with_part, is_month}
use Rattle.date_answers.proofs.Parts.{some_is, none_some, either, if_true, if_some, paired_is, turned_is, is_day_is, is_day_so, is_time_so, is_stamp_so, is_month_is, is_month_so, paired_so}

ok_is : {A : Type 0} {x y : A} → ◌≡◌ {A = Result A V} (Ok x) (Ok y) → x ≡ y
ok_is h = cc

err_ok : {A Z : Type 0} {v : V} {x : A} → ◌≡◌ {A = Result A V} (Err v) (Ok x) → Z
err_ok h = absurd (never h)
  where
    never : {A : Type 0} {v : V} {x : A} → ◌≡◌ {A = Result A V} (Err v) (Ok x) → ⊥
    never k = cc

-- parts that were told
told_is : {P : Type 0} (real : P → Bool) (text : P → List ℕ) (o : Option P) (t : List ℕ) → text_if_in_range real text o ≡ Ok t → (p : P) × (o ≡ Some p) × (real p ≡ true) × (text p ≡ t)
told_is real text None t h = err_ok h
told_is {P} real text (Some p) t h = by_test (real p) refl h
  where
    by_test : (b : Bool) → real p ≡ b → ◌≡◌ {A = Result (List ℕ) V} (cond b (Ok (text p)) (Err Range)) (Ok t) → (q : P) × (◌≡◌ {A = Option P} (Some p) (Some q)) × (real q ≡ true) × (text q ≡ t)
    by_test true is k = (p, refl, is, ok_is k)
    by_test false is k = err_ok k

-- ---- years

-- a year, and the days that are left
record IsYear (year fuel days : ℕ) (found : ℕ × ℕ) : Type 0 where
  total : days_of_years found.0 + found.1 ≡ days_of_years year + days
  high : found.0 ≤ year + fuel
  within : found.1 < year_days found.0

next_year : (year : ℕ) → days_of_years (suc year) ≡ days_of_years year + year_days year
unfolding days_of_years
next_year year = refl

lt_is : (a b : ℕ) → nat_lt a b ≡ true → a < b
lt_is a b h = grind (arith, nat_tests)

lt_not : (a b : ℕ) → nat_lt a b ≡ false → b ≤ a
lt_not a b h = grind (arith, nat_tests)

year_is : (fuel year days : ℕ) → days_of_years year + days < days_of_years (year + suc fuel) → IsYear year fuel days (year_in fuel year days)
unfolding year_in
year_is zero year days low =
    let next : days_of_years (year + 1) ≡ days_of_years year + year_days year = let e : year + 1 ≡ suc year = omega arith in ap days_of_years e ∙ next_year year in
    record { total = refl; high = omega arith; within = omega (arith, low, next) }
year_is (suc fuel) year days low = elim (either (nat_lt days (year_days year))) [
  | inl t ↦ subst (IsYear year (suc fuel) days) (sym (if_true (nat_lt days (year_days year)) (year, days) _ t))
      (record { total = refl; high = omega arith; within = lt_is days (year_days year) t })
  | inr f ↦
      let more : year_days year ≤ days = lt_not days (year_days year) f in
      let e : year + suc (suc fuel) ≡ suc year + suc fuel = omega arith in
      let total : days_of_years (suc year) + (days - year_days year) ≡ days_of_years year + days = omega (arith, next_year year, more) in
      let rest = year_is fuel (suc year) (days - year_days year) (subst (λ n. n < days_of_years (suc year + suc fuel)) (sym total) (subst (λ k. days_of_years year + days < days_of_years k) e low)) in
      subst (IsYear year (suc fuel) days) (sym (ap (λ b. cond b (year, days) (year_in fuel (suc year) (days - year_days year))) f))
      (record { total = rest.total ∙ total; high = omega (arith, rest.high); within = rest.within })
]

-- ---- months

record IsMonthOf (year fuel month days : ℕ) (found : ℕ × ℕ) : Type 0 where
  before : ℕ
  month_is : found.0 ≡ suc before
  total : days_of_months year before + found.1 ≡ days_of_months year month + days
  high : before ≤ month + fuel
  within : found.1 < month_days year found.0

next_month : (year month : ℕ) → days_of_months year (suc month) ≡ days_of_months year month + month_days year (suc month)
unfolding days_of_months
next_month year month = refl

month_is : (fuel year month days : ℕ) → days_of_months year month + days < days_of_months year (month + suc fuel) → IsMonthOf year fuel month days (month_in fuel year (suc month) days)
unfolding month_in
month_is zero year month days low =
    let next : days_of_months year (month + 1) ≡ days_of_months year month + month_days year (suc month) = let e : month + 1 ≡ suc month = omega arith in ap (days_of_months year) e ∙ next_month year month in
    record { before = month; month_is = refl; total = refl; high = omega arith; within = omega (arith, low, next) }
month_is (suc fuel) year month days low = elim (either (nat_lt days (month_days year (suc month)))) [
  | inl t ↦ subst (IsMonthOf year (suc fuel) month days) (sym (if_true (nat_lt days (month_days year (suc month))) (suc month, days) _ t))
      (record { before = month; month_is = refl; total = refl; high = omega arith; within = lt_is days (month_days year (suc month)) t })
  | inr f ↦
      let long = month_days year (suc month) in
      let more : long ≤ days = lt_not days long f in
      let e : month + suc (suc fuel) ≡ suc month + suc fuel = omega arith in
      let total : days_of_months year (suc month) + (days - long) ≡ days_of_months year month + days = omega (arith, next_month year month, more) in
      let rest = month_is fuel year (suc month) (days - long) (subst (λ n. n < days_of_months year (suc month + suc fuel)) (sym total) (subst (λ k. days_of_months year month + days < days_of_months year k) e low)) in
      subst (IsMonthOf year (suc fuel) month days) (sym (ap (λ b. cond b (suc month, days) (month_in fuel year (suc (suc month)) (days - long))) f))
      (record { before = rest.before; month_is = rest.month_is; total = rest.total ∙ total; high = omega (arith, rest.high); within = rest.within })
]

months_of_year : (year : ℕ) → days_of_months year 12 ≡ year_days year
unfolding days_of_months
months_of_year year = elim (either (is_leap year)) [
  | inl t ↦ rw t refl
  | inr f ↦ rw f refl
]

no_months : (year : ℕ) → days_of_months year 0 ≡ 0
unfolding days_of_months
no_months year = refl

no_years : days_of_years 0 ≡ 0
unfolding days_of_years
no_years = refl

all_years : days_of_years 10000 ≡ 3_652_425
unfolding days_of_years
all_years = refl

-- ---- days

-- the day of a count from the year 0 on
count_is : (n : ℕ) → n < 3_652_425 → (days_before (day_in_year (year_in 9999 0 n)) ≡ n) × IsDay (day_in_year (year_in 9999 0 n)) × ((day_in_year (year_in 9999 0 n)).year < 10000)
count_is n low =
    let found = year_in 9999 0 n in
    let year = year_is 9999 0 n (omega (arith, no_years, all_years, low)) in
    let month = month_in 11 found.0 1 found.1 in
    let is = month_is 11 found.0 0 found.1 (omega (arith, no_months found.0, months_of_year found.0, year.within)) in
    let first : month.0 - 1 ≡ is.before = omega (arith, is.month_is) in
    let total : days_of_months found.0 (month.0 - 1) + month.1 ≡ found.1 = ap (λ k. days_of_months found.0 k + month.1) first ∙ omega (arith, is.total, no_months found.0) in (
      omega (arith, total, year.total, no_years),
      record { month_low = omega (arith, is.month_is); month_high = omega (arith, is.month_is, is.high); day_low = omega arith; day_high = omega (arith, is.within) },
      omega (arith, year.high),
    )

day_from_is : (z : ℤ) (day : Day) → day_from z ≡ Some day → (pos (days_before day) ≡ z) × IsDay day × (day.year < 10000)
day_from_is (negsuc k) day h = none_some h
day_from_is (pos k) day h =
    let test = if_some (nat_lt k 3_652_425) (Some (day_in_year (year_in 9999 0 k))) day h in
    let is = count_is k (lt_is k 3_652_425 test.0) in
    subst (λ d. (pos (days_before d) ≡ pos k) × IsDay d × (d.year < 10000)) (some_is test.1) (ap pos is.0, is.1, is.2)

pub day_numbered_is : (n : ℤ) (day : Day) → day_numbered n ≡ Some day → (number_of day ≡ n) × IsDay day × (day.year < 10000)
day_numbered_is n day h =
    let is = day_from_is (n +ℤ pos 719_528) day h in
    (omega (arith, signed_arith, number_before day, is.0), is.1, is.2)

pub day_spelled : (n : ℤ) (t : List ℕ) → day_shown n ≡ Ok t → Spells days t n
day_spelled n t h =
    let shown = told_is is_day day_text (day_numbered n) t h in
    let is = day_numbered_is n shown.0 shown.1 in
    record { parts = shown.0; fits = day_fits shown.0 is.1 is.2; spelled = sym shown.3; real = is.1; stands = is.0 }

-- ---- times of day

pub unit_is : (unit : ℕ) → is_unit unit ≡ true → IsUnit unit
unit_is unit h = elim (either (unit == 0)) [
  | inl a ↦ inl (eqb-true unit 0 a)
  | inr na ↦ elim (either (unit == 3)) [
    | inl b ↦ inr (inl (eqb-true unit 3 b))
    | inr nb ↦ elim (either (unit == 6)) [
      | inl c ↦ inr (inr (inl (eqb-true unit 6 c)))
      | inr nc ↦ inr (inr (inr (eqb-true unit 9 (sym (rw (na, nb, nc) refl) ∙ h))))
    ]
  ]
]

clock_is : (unit count : ℕ) → IsUnit unit → count < units_of_a_day unit → InUnit unit (clock_at unit count) × IsTime (clock_at unit count) × (count_of (clock_at unit count) ≡ count)
clock_is unit count known low =
    let power = 10 ^ unit in
    let some : 0 < power = one-le-pow unit 10 (omega arith) in
    let seconds = count / power in
    let split : seconds * power + count % power ≡ count = div-add-mod' count power in
    let few : seconds < 86_400 = short seconds power count split low in
    let sum : (seconds / 3600 * 60 + seconds / 60 % 60) * 60 + seconds % 60 ≡ seconds = omega arith in (
      record {
        fits = record { hour_fits = omega (arith, few); minute_fits = omega arith; second_fits = omega arith; few = small unit known; fraction_fits = mod-lt count some };
        known = known;
        places_are = refl;
      },
      record { hour_high = omega (arith, few); minute_high = omega arith; second_high = omega arith },
      ap (λ s. s * power + count % power) sum ∙ split,
    )
  where
    short : (s p c : ℕ) → s * p + c % p ≡ c → c < 86_400 * p → s < 86_400
    short s p c split low = elim (either (nat_lt s 86_400)) [
      | inl t ↦ lt_is s 86_400 t
      | inr f ↦
          let more : 86_400 ≤ s = lt_not s 86_400 f in
          let left = s - 86_400 in
          let e : s ≡ 86_400 + left = omega arith in
          let long : s * p ≡ (86_400 + left) * p = ap (λ k. k * p) e in
          absurd (omega (arith, split, low, long))
    ]

    small : (unit : ℕ) → IsUnit unit → unit ≤ 12
    small unit (inl e) = omega (arith, e)
    small unit (inr (inl e)) = omega (arith, e)
    small unit (inr (inr (inl e))) = omega (arith, e)
    small unit (inr (inr (inr e))) = omega (arith, e)

below_is : (n : ℤ) (end k : ℕ) → number_below n end ≡ Some k → (pos k ≡ n) × (k < end)
below_is (negsuc m) end k h = none_some h
below_is (pos m) end k h =
    let test = if_some (nat_lt m end) (Some m) k h in
    subst (λ k. (pos k ≡ pos m) × (k < end)) (some_is test.1) (refl, lt_is m end test.0)

-- the unit was asked first
asked_unit : (unit : ℕ) (r : Result (List ℕ) V) (t : List ℕ) → cond (is_unit unit) r (Err Range) ≡ Ok t → (is_unit unit ≡ true) × (r ≡ Ok t)
asked_unit unit r t h = by_test (is_unit unit) h
  where
    by_test : (b : Bool) → cond b r (Err Range) ≡ Ok t → (b ≡ true) × (r ≡ Ok t)
    by_test true k = (refl, k)
    by_test false k = err_ok k

pub time_spelled : (unit : ℕ) (n : ℤ) (t : List ℕ) → time_shown unit n ≡ Ok t → Spells (times_in unit) t n
time_spelled unit n t h =
    let unit_asked = asked_unit unit (text_if_in_range is_time clock_text (clock_counted unit (number_below n (units_of_a_day unit)))) t h in
    let shown = told_is is_time clock_text (clock_counted unit (number_below n (units_of_a_day unit))) t unit_asked.1 in
    let counted = turned_is (clock_at unit) (number_below n (units_of_a_day unit)) shown.0 shown.1 in
    let low = below_is n (units_of_a_day unit) counted.0 counted.1 in
    let is = clock_is unit counted.0 (unit_is unit unit_asked.0) low.1 in
    subst (Spells (times_in unit) t) low.0 (record {
      parts = clock_at unit counted.0;
      fits = is.0;
      spelled = sym shown.3 ∙ ap clock_text (sym counted.2);
      real = is.1;
      stands = ap pos is.2;
    })

-- ---- moments

pub split_is : (n : ℤ) (units : ℕ) → 0 < units → ((days_in n units *ℤ pos units) +ℤ pos (left_in n units) ≡ n) × (left_in n units < units)
split_is (pos n) units some =
    let all = div-add-mod' n units in
    (omega (arith, signed_arith, all), mod-lt n some)
split_is (negsuc n) units some =
    let all = div-add-mod' n units in
    let low : n % units < units = mod-lt n some in
    (omega (arith, signed_arith, all, low), omega (arith, low))

pub stamp_spelled : (unit : ℕ) (n : ℤ) (t : List ℕ) → stamp_shown unit n ≡ Ok t → Spells (stamps_in unit) t n
stamp_spelled unit n t h =
    let units = units_of_a_day unit in
    let power : 0 < 10 ^ unit = one-le-pow unit 10 (omega arith) in
    let split = split_is n units (omega (arith, power)) in
    let unit_asked = asked_unit unit (text_if_in_range is_stamp stamp_text (both_some_of as_stamp (day_numbered (days_in n units)) (Some (clock_at unit (left_in n units))))) t h in
    let shown = told_is is_stamp stamp_text (both_some_of as_stamp (day_numbered (days_in n units)) (Some (clock_at unit (left_in n units)))) t unit_asked.1 in
    let both_parts = paired_is as_stamp (day_numbered (days_in n units)) (Some (clock_at unit (left_in n units))) shown.0 shown.1 in
    let day = day_numbered_is (days_in n units) both_parts.0 both_parts.2 in
    let clock = clock_is unit (left_in n units) (unit_is unit unit_asked.0) split.1 in
    let stamp : Stamp = as_stamp both_parts.0 (clock_at unit (left_in n units)) in
    let own : stamp ≡ shown.0 = ap (as_stamp both_parts.0) (some_is both_parts.3) ∙ both_parts.4 in
    record {
      parts = stamp;
      fits = (day_fits both_parts.0 day.1 day.2, clock.0);
      spelled = sym shown.3 ∙ ap stamp_text (sym own);
      real = (day.1, clock.1);
      stands = ap (λ d. (d *ℤ pos units) +ℤ pos (count_of (clock_at unit (left_in n units)))) day.0 ∙ ap (λ c. (days_in n units *ℤ pos units) +ℤ pos c) clock.2 ∙ split.0;
    }

-- ---- months

part_of_is : (day week : Option ℤ) (p : Part) → part_of day week ≡ Some p → FitsPart p × (day_part p ≡ day) × (week_part p ≡ week)
part_of_is None None p h = subst (λ p. FitsPart p × (day_part p ≡ None) × (week_part p ≡ None)) (some_is h) (tt, refl, refl)
part_of_is (Some day) None p h =
    let is = turned_is (λ d. part.Day d) (number_below day 100) p h in
    let low = below_is day 100 is.0 is.1 in
    subst (λ p. FitsPart p × (day_part p ≡ Some day) × (week_part p ≡ None)) is.2 (low.1, ap Some low.0, refl)
part_of_is None (Some week) p h =
    let is = turned_is (λ w. part.Week w) (number_below week 10) p h in
    let low = below_is week 10 is.0 is.1 in
    subst (λ p. FitsPart p × (day_part p ≡ None) × (week_part p ≡ Some week)) is.2 (low.1, refl, ap Some low.0)
part_of_is (Some day) (Some week) p h = none_some h

pub month_spelled : (m : MonthYear) (t : List ℕ) → month_shown m ≡ Ok t → Spells months t m
month_spelled m t h =
    let parts = both_some_of as_month (number_below m.year 10000) (both_some_of with_part (number_below m.month 100) (part_of m.day m.week)) in
    let shown = told_is is_month month_text parts t h in
    let all = paired_is as_month (number_below m.year 10000) (both_some_of with_part (number_below m.month 100) (part_of m.day m.week)) shown.0 shown.1 in
    let rest = paired_is with_part (number_below m.month 100) (part_of m.day m.week) all.1 all.3 in
    let year = below_is m.year 10000 all.0 all.2 in
    let month = below_is m.month 100 rest.0 rest.2 in
    let last = part_of_is m.day m.week rest.1 rest.3 in
    let own : as_month all.0 (with_part rest.0 rest.1) ≡ shown.0 = ap (as_month all.0) rest.4 ∙ all.4 in
    record {
      parts = as_month all.0 (with_part rest.0 rest.1);
      fits = record { year_fits = year.1; month_fits = month.1; part_fits = last.0 };
      spelled = sym shown.3 ∙ ap month_text (sym own);
      real = subst IsMonth (sym own) (is_month_is shown.0 shown.2);
      stands = same_month year.0 month.0 last.1 last.2;
    }
  where
    same_month : {y z mo no : ℤ} {d e w u : Option ℤ} → y ≡ z → mo ≡ no → d ≡ e → w ≡ u →
        ◌≡◌ {A = MonthYear} (record { year = y; month = mo; day = d; week = w }) (record { year = z; month = no; day = e; week = u })
    same_month a b c d = cc

-- ---- and the reverse

-- parts that are there and in their ranges are told
told_so : {P : Type 0} (real : P → Bool) (text : P → List ℕ) (o : Option P) (p : P) → o ≡ Some p → real p ≡ true → text_if_in_range real text o ≡ Ok (text p)
told_so real text o p is r = ap (text_if_in_range real text) is ∙ if_true (real p) (Ok (text p)) (Err Range) r

lt_so : (a b : ℕ) → a < b → nat_lt a b ≡ true
lt_so a b h = grind (arith, nat_tests)

below_so : (k end : ℕ) → k < end → number_below (pos k) end ≡ Some k
below_so k end h = if_true (nat_lt k end) (Some k) None (lt_so k end h)

day_from_so : (z : ℤ) → pos 0 ≤ℤ z → z ≤ℤ pos 3_652_424 → (day : Day) × (day_from z ≡ Some day)
day_from_so (negsuc k) low high = absurd (omega (arith, signed_arith, low))
day_from_so (pos k) low high =
    let few : k < 3_652_425 = omega (arith, signed_arith, high) in
    (day_in_year (year_in 9999 0 k), if_true (nat_lt k 3_652_425) (Some (day_in_year (year_in 9999 0 k))) None (lt_so k 3_652_425 few))

-- a day's number has a day
day_there : (n : ℤ) (day : Day) → IsDay day → day.year < 10000 → number_of day ≡ n → (found : Day) × (day_numbered n ≡ Some found) × (is_day found ≡ true)
day_there n day real within is =
    let range = number_range day real within in
    let found = day_from_so (n +ℤ pos 719_528) (subst (λ z. pos 0 ≤ℤ (z +ℤ pos 719_528)) is (omega (arith, signed_arith, range.0))) (subst (λ z. (z +ℤ pos 719_528) ≤ℤ pos 3_652_424) is (omega (arith, signed_arith, range.1))) in
    (found.0, found.1, is_day_so found.0 (day_numbered_is n found.0 found.1).1)

pub day_told : (n : ℤ) (t : List ℕ) → Spells days t n → (u : List ℕ) × (day_shown n ≡ Ok u)
day_told n t s =
    let found = day_there n s.parts s.real s.fits.year s.stands in
    (day_text found.0, told_so is_day day_text (day_numbered n) found.0 found.1 found.2)

unit_so : (unit : ℕ) → IsUnit unit → is_unit unit ≡ true
unit_so unit (inl e) = ap is_unit e
unit_so unit (inr (inl e)) = ap is_unit e
unit_so unit (inr (inr (inl e))) = ap is_unit e
unit_so unit (inr (inr (inr e))) = ap is_unit e

-- each time of day has a text
pub time_counted : (unit count : ℕ) → IsUnit unit → count < units_of_a_day unit → (u : List ℕ) × (time_shown unit (pos count) ≡ Ok u)
time_counted unit count known low =
    let is = clock_is unit count known low in (
      clock_text (clock_at unit count),
      if_true (is_unit unit) _ (Err Range) (unit_so unit known)
          ∙ told_so is_time clock_text (clock_counted unit (number_below (pos count) (units_of_a_day unit))) (clock_at unit count) (ap (on_some (clock_at unit)) (below_so count (units_of_a_day unit) low)) (is_time_so (clock_at unit count) is.1),
    )

pub time_told : (unit : ℕ) (n : ℤ) (t : List ℕ) → Spells (times_in unit) t n → (u : List ℕ) × (time_shown unit n ≡ Ok u)
time_told unit n t s =
    let clock = s.parts in
    let low : count_of clock < units_of_a_day unit = subst (λ p. count_of clock < 86_400 * 10 ^ p) s.fits.places_are (count_below clock s.fits.fits s.real) in
    subst (λ z. (u : List ℕ) × (time_shown unit z ≡ Ok u)) s.stands (time_counted unit (count_of clock) s.fits.known low)

-- each moment of a day that the calendar has has a text
pub stamp_counted : (unit : ℕ) (n : ℤ) (day : Day) → IsUnit unit → IsDay day → day.year < 10000 → number_of day ≡ days_in n (units_of_a_day unit) → (u : List ℕ) × (stamp_shown unit n ≡ Ok u)
stamp_counted unit n day known real within day_is =
    let units = units_of_a_day unit in
    let power : 0 < 10 ^ unit = one-le-pow unit 10 (omega arith) in
    let split = split_is n units (omega (arith, power)) in
    let found = day_there (days_in n units) day real within day_is in
    let clock = clock_is unit (left_in n units) known split.1 in
    let own : Stamp = as_stamp found.0 (clock_at unit (left_in n units)) in (
      stamp_text own,
      if_true (is_unit unit) _ (Err Range) (unit_so unit known)
          ∙ told_so is_stamp stamp_text (both_some_of as_stamp (day_numbered (days_in n units)) (Some (clock_at unit (left_in n units)))) own
          (paired_so as_stamp (day_numbered (days_in n units)) (Some (clock_at unit (left_in n units))) found.0 (clock_at unit (left_in n units)) found.1 refl)
          (is_stamp_so own (is_day_is found.0 found.2, clock.1)),
    )

pub stamp_told : (unit : ℕ) (n : ℤ) (t : List ℕ) → Spells (stamps_in unit) t n → (u : List ℕ) × (stamp_shown unit n ≡ Ok u)
stamp_told unit n t s =
    let stamp = s.parts in
    let inner = s.fits.1 in
    let units = units_of_a_day unit in
    let power : 0 < 10 ^ unit = one-le-pow unit 10 (omega arith) in
    let split = split_is n units (omega (arith, power)) in
    let low : count_of stamp.clock < units = subst (λ p. count_of stamp.clock < 86_400 * 10 ^ p) inner.places_are (count_below stamp.clock inner.fits s.real.1) in
    let whole : (number_of stamp.day *ℤ pos units) +ℤ pos (count_of stamp.clock) ≡ n = subst (λ p. (number_of stamp.day *ℤ pos (86_400 * 10 ^ p)) +ℤ pos (count_of stamp.clock) ≡ n) inner.places_are s.stands in
    let day_is : number_of stamp.day ≡ days_in n units = one_day units (number_of stamp.day) (days_in n units) (count_of stamp.clock) (left_in n units) low split.1 (whole ∙ sym split.0) in
    stamp_counted unit n stamp.day inner.known s.real.0 s.fits.0.year day_is

part_of_so : (p : Part) → FitsPart p → part_of (day_part p) (week_part p) ≡ Some p
part_of_so part.Whole fits = refl
part_of_so (part.Day day) fits = ap (on_some (λ d. part.Day d)) (below_so day 100 fits)
part_of_so (part.Week week) fits = ap (on_some (λ w. part.Week w)) (below_so week 10 fits)

pub month_told : (m : MonthYear) (t : List ℕ) → Spells months t m → (u : List ℕ) × (month_shown m ≡ Ok u)
month_told m t s =
    let p = s.parts in (
      month_text p,
      subst (λ m. month_shown m ≡ Ok (month_text p)) s.stands
          (told_so is_month month_text (both_some_of as_month (number_below (pos p.year) 10000) (both_some_of with_part (number_below (pos p.month) 100) (part_of (day_part p.part) (week_part p.part)))) p
          (paired_so as_month (number_below (pos p.year) 10000) _ p.year (p.month, p.part) (below_so p.year 10000 s.fits.year_fits)
          (paired_so with_part (number_below (pos p.month) 100) (part_of (day_part p.part) (week_part p.part)) p.month p.part (below_so p.month 100 s.fits.month_fits) (part_of_so p.part s.fits.part_fits)))
          (is_month_so p s.real)),
    )
