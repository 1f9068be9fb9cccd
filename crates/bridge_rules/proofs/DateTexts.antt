-- What is written of days, moments and months is read as they are.
use Rattle.std.proofs.Common.{◌≡◌, inl, inr, ℕ, zero, suc, ◌+◌, ◌-◌, ◌/◌, ◌%◌, ◌<◌, min, true, false, List, [], ◌∷◌, ◌++◌, length, Option, Some, None, Result, Ok, Err, refl, sym, ap, ◌∙◌, subst, arith, ℤ, pos, negsuc}
use Rattle.std.specs.Prelude.{◌==◌, IsOkAnd}
use Rattle.std.proofs.lemmas.Bool.Decides.{nat_tests}
use Rattle.std.proofs.lemmas.Int.{ints}
use Rattle.sbe_types.specs.declared.kind.Leaf.{Leaf as LeafOf}
use Rattle.sbe_types.specs.declared.message.Value.{Value, items_hidden-the_row-Value-0}
use Rattle.sbe_types.specs.declared.message.Value as value
use Rattle.fix_values.specs.declared.rule.V.{V}
use Rattle.fix_values.specs.declared.rule.V.TheVariants as why
use Rattle.fix_values.specs.Numerals.{is_value}
use Rattle.fix_values.specs.Decimals.{widened}
use Rattle.fix_values.specs.Codes.{has_soh}
use Rattle.fix_dates.specs.declared.calendar.Day.{Day}
use Rattle.fix_dates.specs.declared.clock.Clock.{Clock}
use Rattle.fix_dates.specs.declared.month.Part.{Part}
use Rattle.fix_dates.specs.declared.month.Part.TheVariants as part
use Rattle.fix_dates.specs.declared.month.MonthYear.{MonthYear}
use Rattle.fix_dates.specs.Digits.{digits}
use Rattle.fix_dates.specs.Days.{days, day_text}
use Rattle.fix_dates.specs.Clocks.{clock_text, fraction_text, IsUnit}
use Rattle.fix_dates.specs.Stamps.{SameTime}
use Rattle.fix_dates.specs.Months.{months, part_text}
use Rattle.fix_dates.proofs.KindFacts.{read_back_as, shown_time, shown_stamp, IsShown as IsTold}
use Rattle.fix_dates.proofs.OneText.{one_day_of_text, one_month_of_text}
use Rattle.fix_dates.proofs.DigitFacts.{length_digits}
use Rattle.date_answers.specs.Answers.{Instant, moment_answer, day_read, day_shown, month_read, month_shown, time_read, stamp_read, least_unit}
use Rattle.date_answers.proofs.Joined.{day_reads, month_reads, time_reads, stamp_reads}
use Rattle.date_answers.proofs.Shown.{day_spelled, month_spelled, time_spelled, stamp_spelled}
use Rattle.std.proofs.lemmas.Bool.{eqb-true}
use Rattle.bridge_rules.specs.Rules.{Rule, moment, day_count, month_year, From, from_1970, from_midnight, UnitBy, always, on_wire, MonthLeaves}
use Rattle.bridge_rules.specs.Members.{number_in, two_members, month_value, number_or_null}
use Rattle.bridge_rules.specs.Items.{instant, item_of_read, instant_item_of, unit_on_wire}
use Rattle.bridge_rules.specs.Values.{TimeCount, is_given, value_from, unit_of_null, null_month, instant_read, moment_value, is_month_of, month_admitted}
use Rattle.bridge_rules.specs.Texts.{text_by, field_text, moment_text}
use Rattle.bridge_rules.specs.Sound.{IsShown, ShowsGood}
use Rattle.bridge_rules.proofs.OptionLemmas.{and_second}
use Rattle.bridge_rules.proofs.BoolLemmas.{none_of, if_true}
use Rattle.bridge_rules.proofs.PlainRules.{given_value, judged_so}
use Rattle.bridge_rules.proofs.ShownTexts.{plain_append, given_text, field_text_is, field_text_some, long_front}
use Rattle.bridge_rules.proofs.SoundRules.{day_count_sound, month_year_sound}
use Rattle.bridge_rules.proofs.Moments.{Fits, in_unit_so, moment_sound}
use Rattle.bridge_rules.proofs.ReadBack.{back_shown, none_shown}

-- ---- texts without SOH

pub plain_places : (places n : ℕ) → has_soh (digits places n) ≡ false
unfolding digits
plain_places zero n = refl
plain_places (suc places) n =
    let digit : (48 + n % 10 == 1) ≡ false = grind (arith, nat_tests) in
    plain_append (digits places (n / 10)) ((48 + n % 10) ∷ []) (plain_places places (n / 10)) (none_of (48 + n % 10 == 1) false digit refl)

pub plain_day : (day : Day) → has_soh (day_text day) ≡ false
plain_day day = plain_append (digits 4 day.year) _ (plain_places 4 day.year) (plain_append (digits 2 day.month) (digits 2 day.day) (plain_places 2 day.month) (plain_places 2 day.day))

plain_fraction : (places f : ℕ) → has_soh (fraction_text places f) ≡ false
plain_fraction zero f = refl
plain_fraction (suc places) f = plain_places (suc places) f

pub plain_clock : (clock : Clock) → has_soh (clock_text clock) ≡ false
plain_clock clock =
    plain_append (digits 2 clock.hour) _ (plain_places 2 clock.hour)
    (plain_append (digits 2 clock.minute) _ (plain_places 2 clock.minute)
    (plain_append (digits 2 clock.second) (fraction_text clock.places clock.fraction) (plain_places 2 clock.second) (plain_fraction clock.places clock.fraction)))

pub plain_part : (p : Part) → has_soh (part_text p) ≡ false
plain_part part.Whole = refl
plain_part (part.Day day) = plain_places 2 day
plain_part (part.Week week) = plain_places 1 week

pub some_digits : (places n : ℕ) → 0 < places → 0 < length (digits places n)
some_digits places n h = omega (arith, h, length_digits places n)

-- a text with this text in front, or alone, may be a field's
given_front : (rule : Rule) (t s more : List ℕ) → t ≡ s ++ more → 0 < length s → has_soh (s ++ more) ≡ false → is_given rule t ≡ true
given_front rule t s more e long plain = subst (λ t. is_given rule t ≡ true) (sym e) (given_text rule (s ++ more) (long_front s more long) plain)

-- ---- days

day_back : (n : ℤ) (t : List ℕ) → day_shown n ≡ Ok t → day_read t ≡ Ok n
day_back n t h = read_back_as days one_day_of_text (λ s a b p q. sym p ∙ q) t n (day_read t) (day_spelled n t h) (day_reads t)

pub day_count_shown : (leaf : LeafOf) → ShowsGood (day_count leaf)
day_count_shown leaf v good = elim good [
  | inl g ↦ subst (IsShown (day_count leaf)) (sym g.1) (back_shown (day_count leaf) (value.Num g.0) (day_count_sound leaf)
      (λ t h.
      let text = field_text_is (day_shown g.0) t h in
      let spelled = day_spelled g.0 t text in
      let day = spelled.parts in
      given_value (day_count leaf) t (value.Num g.0)
      (given_front (day_count leaf) t (digits 4 day.year) (digits 2 day.month ++ digits 2 day.day) spelled.spelled (some_digits 4 day.year (omega arith)) (plain_day day))
      (ap (value_from value.Num) (judged_so leaf (day_read t) g.0 (day_back g.0 t text) g.2)))
      (λ h. field_text_some (day_shown g.0) h))
  | inr g ↦ subst (IsShown (day_count leaf)) (sym g.0) (none_shown (day_count leaf) value.Null refl refl)
]

-- ---- months

month_back : (m : MonthYear) (t : List ℕ) → month_shown m ≡ Ok t → month_read t ≡ Ok m
month_back m t h = read_back_as months one_month_of_text (λ s a b p q. sym p ∙ q) t m (month_read t) (month_spelled m t h) (month_reads t)

number_or_null_is : (o : Option ℤ) → number_in (number_or_null o) ≡ o
number_or_null_is None = refl
number_or_null_is (Some n) = refl

pub month_text_is : (leaves : MonthLeaves) (m : MonthYear) → text_by (month_year leaves) (month_value m) ≡ field_text (month_shown m)
month_text_is leaves m = simp (items_hidden-the_row-Value-0, number_or_null_is)

pub month_year_shown : (leaves : MonthLeaves) → ShowsGood (month_year leaves)
month_year_shown leaves v good = elim good [
  | inl g ↦ subst (IsShown (month_year leaves)) (sym g.1) (back_shown (month_year leaves) (month_value g.0) (month_year_sound leaves)
      (λ t h.
      let text = field_text_is (month_shown g.0) t (sym (month_text_is leaves g.0) ∙ h) in
      let spelled = month_spelled g.0 t text in
      let p = spelled.parts in
      given_value (month_year leaves) t (month_value g.0)
      (given_front (month_year leaves) t (digits 4 p.year) (digits 2 p.month ++ part_text p.part) spelled.spelled (some_digits 4 p.year (omega arith))
      (plain_append (digits 4 p.year) _ (plain_places 4 p.year) (plain_append (digits 2 p.month) (part_text p.part) (plain_places 2 p.month) (plain_part p.part))))
      (ap (λ r. value_from month_value (month_admitted leaves r)) (month_back g.0 t text) ∙ ap (value_from month_value) (if_true (is_month_of leaves g.0) (Ok g.0) (Err why.Range) g.2)))
      (λ h. field_text_some (month_shown g.0) (sym (month_text_is leaves g.0) ∙ h)))
  | inr g ↦ subst (IsShown (month_year leaves)) (sym g.0) (none_shown (month_year leaves) (null_month leaves) (simp items_hidden-the_row-Value-0) (simp items_hidden-the_row-Value-0))
]

-- ---- moments

nanos_are : (z n : ℤ) (unit : ℕ) → IsUnit unit → SameTime z n unit → z ≡ widened n (9 - unit)
nanos_are z (pos k) unit (inl e) h = rw e (let own = rw e at h in omega (arith, ints, own))
nanos_are z (pos k) unit (inr (inl e)) h = rw e (let own = rw e at h in omega (arith, ints, own))
nanos_are z (pos k) unit (inr (inr (inl e))) h = rw e (let own = rw e at h in omega (arith, ints, own))
nanos_are z (pos k) unit (inr (inr (inr e))) h = rw e (let own = rw e at h in omega (arith, ints, own))
nanos_are z (negsuc k) unit (inl e) h = rw e (let own = rw e at h in omega (arith, ints, own))
nanos_are z (negsuc k) unit (inr (inl e)) h = rw e (let own = rw e at h in omega (arith, ints, own))
nanos_are z (negsuc k) unit (inr (inr (inl e))) h = rw e (let own = rw e at h in omega (arith, ints, own))
nanos_are z (negsuc k) unit (inr (inr (inr e))) h = rw e (let own = rw e at h in omega (arith, ints, own))

least_of : (digits unit : ℕ) → IsUnit unit → min 9 digits ≡ unit → least_unit digits ≡ unit
least_of digits unit (inl e) h = grind (arith, nat_tests, e, h)
least_of digits unit (inr (inl e)) h = grind (arith, nat_tests, e, h)
least_of digits unit (inr (inr (inl e))) h = grind (arith, nat_tests, e, h)
least_of digits unit (inr (inr (inr e))) h = grind (arith, nat_tests, e, h)

-- a text of a time in a unit, as it is read
record IsTimed (n : ℤ) (unit : ℕ) (r : Result Instant V) : Type 0 where
  instant_is : Instant
  read : r ≡ Ok instant_is
  nanos : instant_is.nanos ≡ widened n (9 - unit)
  least : least_unit instant_is.digits ≡ unit

timed_by : (n : ℤ) (unit : ℕ) (r : Result Instant V) → IsUnit unit → IsOkAnd (moment_answer r) (IsTold n unit) → IsTimed n unit r
timed_by n unit (Ok i) known told = record { instant_is = i; read = refl; nanos = nanos_are i.nanos n unit known told.0; least = least_of i.digits unit known told.1 }
timed_by n unit (Err v) known told = absurd told

-- what a moment's text is read as, and that it may be a field's
moment_back : (from : From) (unit : ℕ) (n : ℤ) (t : List ℕ) → moment_text from (Some unit) n ≡ Ok t → IsTimed n unit (instant_read from t) × ((rule : Rule) → is_given rule t ≡ true)
moment_back from_1970 unit n t h =
    let s = stamp_spelled unit n t h in
    let day = s.parts.day in (
      timed_by n unit (stamp_read t) s.fits.1.known (shown_stamp n unit t (moment_answer (stamp_read t)) s (stamp_reads t)),
      λ rule. given_front rule t (day_text day) (45 ∷ clock_text s.parts.clock) s.spelled (long_front (digits 4 day.year) _ (some_digits 4 day.year (omega arith)))
          (plain_append (day_text day) (45 ∷ clock_text s.parts.clock) (plain_day day) (plain_clock s.parts.clock)),
    )
moment_back from_midnight unit n t h =
    let s = time_spelled unit n t h in
    let clock = s.parts in (
      timed_by n unit (time_read t) s.fits.known (shown_time n unit t (moment_answer (time_read t)) s (time_reads t)),
      λ rule. given_front rule t (digits 2 clock.hour) (58 ∷ (digits 2 clock.minute ++ (58 ∷ (digits 2 clock.second ++ fraction_text clock.places clock.fraction)))) s.spelled (some_digits 2 clock.hour (omega arith)) (plain_clock clock),
    )

pub moment_text_is : (from : From) (leaf : LeafOf) (unit : UnitBy) (x : TimeCount) → Fits leaf unit x → text_by (moment from leaf unit) (moment_value unit x) ≡ field_text (moment_text from (Some x.unit) x.count)
moment_text_is from leaf (always u) x fits =
    let here : text_by (moment from leaf (always u)) (moment_value (always u) x) ≡ field_text (moment_text from (Some u) x.count) = simp items_hidden-the_row-Value-0 in
    here ∙ ap (λ w. field_text (moment_text from (Some w) x.count)) (eqb-true u x.unit (and_second (is_value leaf x.count) _ fits))
moment_text_is from leaf (on_wire l) x fits = simp items_hidden-the_row-Value-0

pub moment_shown : (from : From) (leaf : LeafOf) (unit : UnitBy) → ShowsGood (moment from leaf unit)
moment_shown from leaf unit v good = elim good [
  | inl g ↦ subst (IsShown (moment from leaf unit)) (sym g.1) (back_shown (moment from leaf unit) (moment_value unit g.0) (moment_sound from leaf unit)
      (λ t h.
      let x = g.0 in
      let text = field_text_is (moment_text from (Some x.unit) x.count) t (sym (moment_text_is from leaf unit x g.2) ∙ h) in
      let back = moment_back from x.unit x.count t text in
      let i = back.0.instant_is in
      given_value (moment from leaf unit) t (moment_value unit x) (back.1 (moment from leaf unit))
      (in_unit_so leaf unit (instant_read from t) x g.2
      (ap (item_of_read (instant_item_of unit)) back.0.read ∙ ap (λ z. Some (instant z (unit_on_wire unit (least_unit i.digits)))) back.0.nanos ∙ ap (λ u. Some (instant (widened x.count (9 - x.unit)) (unit_on_wire unit u))) back.0.least)))
      (λ h. field_text_some (moment_text from (Some g.0.unit) g.0.count) (sym (moment_text_is from leaf unit g.0 g.2) ∙ h)))
  | inr g ↦ subst (IsShown (moment from leaf unit)) (sym g.0) (none_shown (moment from leaf unit) (two_members value.Null (unit_of_null unit)) (simp items_hidden-the_row-Value-0) (simp items_hidden-the_row-Value-0))
]
