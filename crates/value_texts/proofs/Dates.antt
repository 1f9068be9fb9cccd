-- What the calls that show days, moments and months leave.
use Rattle.std.proofs.Common.{◌≡◌, ℕ, Bool, true, false, cond, List, Option, Some, None, Result, Ok, Err, refl, sym, ap, ◌∙◌, subst, ℤ}
use Rattle.fix_values.specs.declared.rule.V.{V}
use Rattle.fix_values.specs.declared.rule.V.TheVariants.{Spelling, Range, Inexact, Soh, Empty, UnknownCode}
use Rattle.fix_values.specs.Values.{Leaves}
use Rattle.fix_dates.specs.declared.month.MonthYear.{MonthYear}
use Rattle.fix_dates.specs.Reading.{Kind, Spells, Shows}
use Rattle.fix_dates.specs.Days.{days, day_text}
use Rattle.fix_dates.specs.Clocks.{times_in, clock_text}
use Rattle.fix_dates.specs.Stamps.{stamps_in, stamp_text}
use Rattle.fix_dates.specs.Months.{months, month_text}
use Rattle.fix_dates.proofs.OneText.{one_day_of_number, one_clock_of_count, one_stamp_of_count, one_month_of_value, same_pos}
use Rattle.date_answers.specs.Answers.{as_month, as_stamp, both_some_of, clock_at, clock_counted, day_numbered, days_in, is_day, is_month, is_stamp, is_time, left_in, number_below, part_of, text_if_in_range, is_unit, units_of_a_day, with_part, day_shown, time_shown, stamp_shown, month_shown}
use Rattle.date_answers.proofs.Shown.{day_spelled, month_spelled, time_spelled, stamp_spelled, day_told, month_told, time_told, stamp_told}
use Rattle.bridge_rules.proofs.PlainRules.{err_ok}
use Rattle.value_texts.proofs.Leaving.{err_is}

-- what is told of a value, where its texts are those that spell it
record IsTold {Parts X : Type 0} (kind : Kind Parts X) (x : X) (told : Result (List ℕ) V) : Type 0 where
  spelled : (t : List ℕ) → told ≡ Ok t → Spells kind t x
  shown : (t : List ℕ) → Spells kind t x → (own : List ℕ) × (told ≡ Ok own)
  one : (a b : List ℕ) → Spells kind a x → Spells kind b x → a ≡ b
  range : (v : V) → told ≡ Err v → v ≡ Range

left_by : {Parts X : Type 0} (kind : Kind Parts X) (x : X) (told : Result (List ℕ) V) (r : Result Unit V) (w : List ℕ) → IsTold kind x told → Shows kind x r w → Leaves r w told
left_by kind x told (Ok u) w is shows =
    let own = is.shown w shows in
    subst (Leaves (Ok u) w) (sym own.1) (refl, is.one w own.0 shows (is.spelled own.0 own.1))
left_by kind x told (Err Spelling) w is shows = absurd shows
left_by kind x told (Err Range) w is shows = by_told told refl
  where
    by_told : (o : Result (List ℕ) V) → told ≡ o → Leaves (Err Range) w o
    by_told (Ok t) same = absurd (shows.1 t (is.spelled t same))
    by_told (Err v) same = (ap Err (sym (is.range v same)), shows.0)
left_by kind x told (Err Inexact) w is shows = absurd shows
left_by kind x told (Err Soh) w is shows = absurd shows
left_by kind x told (Err Empty) w is shows = absurd shows
left_by kind x told (Err UnknownCode) w is shows = absurd shows

ok_err : {X Z : Type 0} {x : X} {v : V} → ◌≡◌ {A = Result X V} (Ok x) (Err v) → Z
ok_err h = err_ok (sym h)

range_of : {P : Type 0} (real : P → Bool) (text : P → List ℕ) (o : Option P) (v : V) → text_if_in_range real text o ≡ Err v → v ≡ Range
range_of real text None v h = sym (err_is h)
range_of {P} real text (Some p) v h = by_test (real p) h
  where
    by_test : (b : Bool) → ◌≡◌ {A = Result (List ℕ) V} (cond b (Ok (text p)) (Err Range)) (Err v) → v ≡ Range
    by_test true k = ok_err k
    by_test false k = sym (err_is k)

range_if : (b : Bool) (r : Result (List ℕ) V) (v : V) → ((v : V) → r ≡ Err v → v ≡ Range) → cond b r (Err Range) ≡ Err v → v ≡ Range
range_if true r v is h = is v h
range_if false r v is h = sym (err_is h)

pub day_left : (n : ℤ) (r : Result Unit V) (w : List ℕ) → Shows days n r w → Leaves r w (day_shown n)
day_left n r w shows = left_by days n (day_shown n) r w (record {
  spelled = day_spelled n;
  shown = day_told n;
  one = λ a b x y.
      let same = one_day_of_number x.parts y.parts x.real y.real x.fits.year y.fits.year (x.stands ∙ sym y.stands) in
      x.spelled ∙ (ap day_text same ∙ sym y.spelled);
  range = λ v h. range_of is_day day_text (day_numbered n) v h;
}) shows

pub month_left : (m : MonthYear) (r : Result Unit V) (w : List ℕ) → Shows months m r w → Leaves r w (month_shown m)
month_left m r w shows = left_by months m (month_shown m) r w (record {
  spelled = month_spelled m;
  shown = month_told m;
  one = λ a b x y.
      let same = one_month_of_value x.parts y.parts (x.stands ∙ sym y.stands) in
      x.spelled ∙ (ap month_text same ∙ sym y.spelled);
  range = λ v h. range_of is_month month_text (both_some_of as_month (number_below m.year 10000) (both_some_of with_part (number_below m.month 100) (part_of m.day m.week))) v h;
}) shows

pub time_left : (unit : ℕ) (n : ℤ) (r : Result Unit V) (w : List ℕ) → Shows (times_in unit) n r w → Leaves r w (time_shown unit n)
time_left unit n r w shows = left_by (times_in unit) n (time_shown unit n) r w (record {
  spelled = time_spelled unit n;
  shown = time_told unit n;
  one = λ a b x y.
      let counts = x.stands ∙ sym y.stands in
      let same = one_clock_of_count x.parts y.parts x.fits.fits y.fits.fits x.real y.real (x.fits.places_are ∙ sym y.fits.places_are) (same_pos _ _ counts) in
      x.spelled ∙ (ap clock_text same ∙ sym y.spelled);
  range = λ v h. range_if (is_unit unit) (text_if_in_range is_time clock_text (clock_counted unit (number_below n (units_of_a_day unit)))) v
      (λ v k. range_of is_time clock_text (clock_counted unit (number_below n (units_of_a_day unit))) v k) h;
}) shows

pub stamp_left : (unit : ℕ) (n : ℤ) (r : Result Unit V) (w : List ℕ) → Shows (stamps_in unit) n r w → Leaves r w (stamp_shown unit n)
stamp_left unit n r w shows = left_by (stamps_in unit) n (stamp_shown unit n) r w (record {
  spelled = stamp_spelled unit n;
  shown = stamp_told unit n;
  one = λ a b x y.
      let same = one_stamp_of_count x.parts y.parts (x.fits.0, x.fits.1.fits) (y.fits.0, y.fits.1.fits) x.real y.real (x.fits.1.places_are ∙ sym y.fits.1.places_are) (x.stands ∙ sym y.stands) in
      x.spelled ∙ (ap stamp_text same ∙ sym y.spelled);
  range = λ v h. range_if (is_unit unit) (text_if_in_range is_stamp stamp_text (both_some_of as_stamp (day_numbered (days_in n (units_of_a_day unit))) (Some (clock_at unit (left_in n (units_of_a_day unit)))))) v
      (λ v k. range_of is_stamp stamp_text (both_some_of as_stamp (day_numbered (days_in n (units_of_a_day unit))) (Some (clock_at unit (left_in n (units_of_a_day unit))))) v k) h;
}) shows
