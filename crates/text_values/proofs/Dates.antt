-- What the calls that read days, moments and months answer.
use Rattle.std.proofs.Common.{◌≡◌, ℕ, List, Result, Ok, Err, refl, sym, ap, subst, ◌∙◌, ℤ, pos}
use Rattle.fix_values.specs.declared.rule.V.{V}
use Rattle.fix_dates.specs.declared.moment.Moment.{Moment}
use Rattle.fix_dates.specs.declared.month.MonthYear.{MonthYear}
use Rattle.fix_dates.specs.Calendar.{number_of}
use Rattle.fix_dates.specs.Clocks.{count_of}
use Rattle.fix_dates.specs.Days.{days}
use Rattle.fix_dates.specs.Months.{months, value_of}
use Rattle.fix_dates.specs.Reading.{Kind, Spells, Reads}
use Rattle.fix_dates.specs.Stamps.{times, stamps, stamp_count}
use Rattle.fix_dates.proofs.KindFacts.{one_refusal, one_moment}
use Rattle.fix_dates.proofs.OneText.{one_day_of_text, one_month_of_text, one_clock_of_text, one_stamp_of_text}
use Rattle.date_answers.specs.Answers.{Instant, day_read, month_read, moment_answer, stamp_read, time_read}
use Rattle.date_answers.proofs.Joined.{day_reads, month_reads, stamp_reads, time_reads}
use Rattle.text_values.specs.Instants.{IsInstant}

-- two answers about one text
record IsOneAnswer {P X : Type 0} (kind : Kind P X) (Same : Result X V → Result X V → Type 0) (t : List ℕ) : Type 0 where
  values : (a b : X) → Spells kind t a → Spells kind t b → Same (Ok a) (Ok b)
  refused : (v : V) (r : Result X V) → Reads kind t (Err v) → Reads kind t r → r ≡ Err v
  alike : (v : V) → Same (Err v) (Err v)

one_answer : {P X : Type 0} (kind : Kind P X) (Same : Result X V → Result X V → Type 0) (t : List ℕ) → IsOneAnswer kind Same t
    → (a b : Result X V) → Reads kind t a → Reads kind t b → Same a b
one_answer kind Same t is (Ok a) (Ok b) r s = is.values a b r s
one_answer kind Same t is (Err v) b r s = subst (Same (Err v)) (sym (is.refused v b r s)) (is.alike v)
one_answer kind Same t is (Ok a) (Err w) r s = subst (λ o. Same o (Err w)) (sym (is.refused w (Ok a) s r)) (is.alike w)

pub day_is : (t : List ℕ) (r : Result ℤ V) → Reads days t r → r ≡ day_read t
day_is t r reads = one_answer days (λ a b. a ≡ b) t (record {
  values = λ m n x y. ap Ok (sym x.stands ∙ (ap number_of (one_day_of_text t x.parts y.parts x.fits y.fits x.spelled y.spelled) ∙ y.stands));
  refused = λ v r. one_refusal days one_day_of_text t v r;
  alike = λ v. refl;
}) r (day_read t) reads (day_reads t)

pub month_is : (t : List ℕ) (r : Result MonthYear V) → Reads months t r → r ≡ month_read t
month_is t r reads = one_answer months (λ a b. a ≡ b) t (record {
  values = λ m n x y. ap Ok (sym x.stands ∙ (ap value_of (one_month_of_text t x.parts y.parts x.fits y.fits x.spelled y.spelled) ∙ y.stands));
  refused = λ v r. one_refusal months one_month_of_text t v r;
  alike = λ v. refl;
}) r (month_read t) reads (month_reads t)

-- the same moment, or the same refusal
abbrev AreAlike : Result Moment V → Result Moment V → Type 0
AreAlike (Ok a) (Ok b) = (a.nanos ≡ b.nanos) × (a.digits ≡ b.digits)
AreAlike (Err v) (Err w) = v ≡ w
AreAlike (Ok a) (Err w) = ⊥
AreAlike (Err v) (Ok b) = ⊥

instant_is : (r : Result Moment V) (o : Result Instant V) → AreAlike r (moment_answer o) → IsInstant r o
instant_is (Ok m) (Ok i) same = same
instant_is (Err v) (Err w) same = same
instant_is (Ok m) (Err w) same = same
instant_is (Err v) (Ok i) same = same

pub time_is : (t : List ℕ) (r : Result Moment V) → Reads times t r → IsInstant r (time_read t)
time_is t r reads = instant_is r (time_read t) (one_answer times AreAlike t (record {
  values = λ a b x y.
      let same = one_clock_of_text t y.parts x.parts y.fits x.fits y.spelled x.spelled in
      one_moment (pos (count_of x.parts)) x.parts.places a b x.stands (subst (λ p. times.Stands p b) same y.stands);
  refused = λ v r. one_refusal times one_clock_of_text t v r;
  alike = λ v. refl;
}) r (moment_answer (time_read t)) reads (time_reads t))

pub stamp_is : (t : List ℕ) (r : Result Moment V) → Reads stamps t r → IsInstant r (stamp_read t)
stamp_is t r reads = instant_is r (stamp_read t) (one_answer stamps AreAlike t (record {
  values = λ a b x y.
      let same = one_stamp_of_text t y.parts x.parts y.fits x.fits y.spelled x.spelled in
      one_moment (stamp_count x.parts) x.parts.clock.places a b x.stands (subst (λ p. stamps.Stands p b) same y.stands);
  refused = λ v r. one_refusal stamps one_stamp_of_text t v r;
  alike = λ v. refl;
}) r (moment_answer (stamp_read t)) reads (stamp_reads t))
