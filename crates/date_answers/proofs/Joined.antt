-- What is read is what the relations say.
use Rattle.std.proofs.Common.{◌≡◌, ℕ, ◌*◌, ◌/◌, ◌%◌, ◌^◌, min, Bool, true, false, cond, Option, Some, None, Result, Ok, Err, List, refl, sym, ap, ◌∙◌, subst, arith, ℤ, pos, ◌+ℤ◌, ◌*ℤ◌}
use Rattle.std.specs.Prelude.{◌==◌}
use Rattle.std.proofs.lemmas.Bool.{eqb-true, eq-eqb}
use Rattle.std.proofs.Math.Nat.{one-le-pow, div-add-mod', mul-mod_left}
use Rattle.jiff_core.proofs.SignedLemmas.{signed_arith}
use Rattle.fix_values.specs.declared.rule.V.{V}
use Rattle.fix_values.specs.declared.rule.V.TheVariants.{Spelling, Range, Inexact, Soh, Empty, UnknownCode}
use Rattle.fix_values.specs.Decimals.{narrowed}
use Rattle.fix_dates.specs.declared.moment.Moment.{Moment}
use Rattle.fix_dates.specs.Calendar.{number_of}
use Rattle.fix_dates.specs.Reading.{Kind, Reads}
use Rattle.fix_dates.specs.Days.{days}
use Rattle.fix_dates.specs.Months.{months, value_of}
use Rattle.fix_dates.specs.Clocks.{count_of}
use Rattle.fix_dates.specs.Stamps.{times, stamps, stamp_count, IsMoment}
use Rattle.fix_dates.proofs.StampFacts.{moment_is, moment_whole}
use Rattle.date_answers.specs.Answers.{Instant, as_moment, moment_answer, if_in_range, clock_instant, instant_from, instant_at, days_long, day_parts, day_read, month_parts, month_read, clock_parts, time_read, stamp_parts, stamp_read, is_day, is_month, is_time, is_stamp}
use Rattle.date_answers.proofs.Parts.{none_some, true_false, day_parts_is, day_parts_so, is_day_is, is_day_so, clock_parts_is, clock_parts_so, is_time_is, is_time_so, stamp_parts_is, stamp_parts_so, is_stamp_is, is_stamp_so, month_parts_is, month_parts_so, is_month_is, is_month_so}

-- what is answered about parts that fit and are in their ranges
abbrev Stood : {P X : Type 0} → Kind P X → P → Result X V → Type 0
Stood kind p (Ok x) = kind.Stands p x
Stood kind p (Err Inexact) = (x : _) → ¬ (kind.Stands p x)
Stood kind p (Err Spelling) = ⊥
Stood kind p (Err Range) = ⊥
Stood kind p (Err Soh) = ⊥
Stood kind p (Err Empty) = ⊥
Stood kind p (Err UnknownCode) = ⊥

-- functions on parts that tell what a kind's relations say
record Tells {P X : Type 0} (kind : Kind P X) (parts : List ℕ → Option P) (real : P → Bool) (value : P → Result X V) : Type 0 where
  is : (t : List ℕ) (p : P) → parts t ≡ Some p → kind.Fits p × (t ≡ kind.text p)
  so : (p : P) → kind.Fits p → parts (kind.text p) ≡ Some p
  real_is : (p : P) → real p ≡ true → kind.Real p
  real_so : (p : P) → kind.Real p → real p ≡ true
  stood : (p : P) → kind.Fits p → kind.Real p → Stood kind p (value p)

asked_reads : {P X : Type 0} (kind : Kind P X) (parts : List ℕ → Option P) (real : P → Bool) (value : P → Result X V) → Tells kind parts real value → (t : List ℕ) → Reads kind t (if_in_range real value (parts t))
asked_reads {P} {X} kind parts real value tells t = by_parts (parts t) refl
  where
    by_value : (p : P) → kind.Fits p → t ≡ kind.text p → kind.Real p → (r : Result X V) → Stood kind p r → Reads kind t r
    by_value p fits spelled is_real (Ok x) s = record { parts = p; fits = fits; spelled = spelled; real = is_real; stands = s }
    by_value p fits spelled is_real (Err Inexact) s = record { parts = p; fits = fits; spelled = spelled; real = is_real; inexact = s }
    by_value p fits spelled is_real (Err Spelling) s = absurd s
    by_value p fits spelled is_real (Err Range) s = absurd s
    by_value p fits spelled is_real (Err Soh) s = absurd s
    by_value p fits spelled is_real (Err Empty) s = absurd s
    by_value p fits spelled is_real (Err UnknownCode) s = absurd s

    by_real : (p : P) → kind.Fits p → t ≡ kind.text p → (b : Bool) → real p ≡ b → Reads kind t (cond b (value p) (Err Range))
    by_real p fits spelled true h = let r = tells.real_is p h in by_value p fits spelled r (value p) (tells.stood p fits r)
    by_real p fits spelled false h = record { parts = p; fits = fits; spelled = spelled; unreal = λ r. true_false (tells.real_so p r) h }

    by_parts : (o : Option P) → parts t ≡ o → Reads kind t (if_in_range real value o)
    by_parts None h = λ p fits e. none_some (sym h ∙ ap parts e ∙ tells.so p fits)
    by_parts (Some p) h = let is = tells.is t p h in by_real p is.0 is.1 (real p) refl

-- ---- days and months

pub day_reads : (t : List ℕ) → Reads days t (day_read t)
day_reads t = asked_reads days day_parts is_day (λ day. Ok (number_of day))
    (record { is = day_parts_is; so = day_parts_so; real_is = is_day_is; real_so = is_day_so; stood = λ p fits r. refl }) t

pub month_reads : (t : List ℕ) → Reads months t (month_read t)
month_reads t = asked_reads months month_parts is_month (λ month. Ok (value_of month))
    (record { is = month_parts_is; so = month_parts_so; real_is = is_month_is; real_so = is_month_so; stood = λ p fits r. refl }) t

-- ---- moments

abbrev IsMomentOf : (Moment → Type 0) → Result Moment V → Type 0
IsMomentOf P (Ok m) = P m
IsMomentOf P (Err Inexact) = (m : Moment) → ¬ (P m)
IsMomentOf P (Err Spelling) = ⊥
IsMomentOf P (Err Range) = ⊥
IsMomentOf P (Err Soh) = ⊥
IsMomentOf P (Err Empty) = ⊥
IsMomentOf P (Err UnknownCode) = ⊥

-- so many nanoseconds, or none, after a beginning
whole_nanos : (start count : ℤ) (a places : ℕ) → (kind : Moment → Type 0) →
    ((q : ℕ) → q * 10 ^ places ≡ a → kind (as_moment (instant_at start places (pos q)))) →
    ((m : Moment) → kind m → (q : ℕ) × (q * 10 ^ places ≡ a)) →
    (r : Result ℤ V) → r ≡ narrowed (pos a) places → IsMomentOf kind (moment_answer (instant_from start places r))
whole_nanos start count a places kind some none r e = subst (λ r. IsMomentOf kind (moment_answer (instant_from start places r))) (sym e) (by_test (a % 10 ^ places == 0) refl)
  where
    whole : (a p : ℕ) → a % p ≡ 0 → a / p * p ≡ a
    whole a p h = let all = div-add-mod' a p in omega (arith, all, h)

    by_test : (b : Bool) → (a % 10 ^ places == 0) ≡ b → IsMomentOf kind (moment_answer (instant_from start places (cond b (Ok (pos (a / 10 ^ places))) (Err Inexact))))
    by_test true h = some (a / 10 ^ places) (whole a (10 ^ places) (eqb-true (a % 10 ^ places) 0 h))
    by_test false h = λ m is.
        let q = none m is in
        true_false (eq-eqb (a % 10 ^ places) 0 (ap (λ n. n % 10 ^ places) (sym q.1) ∙ mul-mod_left q.0 (10 ^ places))) h

stood_by : {P : Type 0} (kind : Kind P Moment) (p : P) (r : Result Moment V) → IsMomentOf (kind.Stands p) r → Stood kind p r
stood_by kind p (Ok m) h = h
stood_by kind p (Err Inexact) h = h
stood_by kind p (Err Spelling) h = absurd h
stood_by kind p (Err Range) h = absurd h
stood_by kind p (Err Soh) h = absurd h
stood_by kind p (Err Empty) h = absurd h
stood_by kind p (Err UnknownCode) h = absurd h

least_nine : (n : ℕ) → min 9 (min 9 n) ≡ min 9 n
least_nine n = omega arith

asked_moment : {P : Type 0} (real : P → Bool) (value : P → Result Instant V) (o : Option P) → moment_answer (if_in_range real value o) ≡ if_in_range real (λ p. moment_answer (value p)) o
asked_moment real value None = refl
asked_moment real value (Some p) = by_test (real p)
  where
    by_test : (b : Bool) → moment_answer (cond b (value p) (Err Range)) ≡ cond b (moment_answer (value p)) (Err Range)
    by_test true = refl
    by_test false = refl

-- nanoseconds of a day's time alone
zero_days : (nanos : ℤ) (power count : ℕ) → nanos *ℤ pos power ≡ pos count *ℤ pos (10 ^ 9) → nanos *ℤ pos power ≡ ((pos 0 *ℤ pos (86_400 * power)) +ℤ pos count) *ℤ pos (10 ^ 9)
zero_days nanos power count h = omega (arith, signed_arith, h)

alone : (power count nanos : ℕ) → nanos * power ≡ count * 10 ^ 9 → (pos 0 +ℤ pos nanos) *ℤ pos power ≡ pos count *ℤ pos (10 ^ 9)
alone power count nanos h = omega (arith, signed_arith, h)

pub time_reads : (t : List ℕ) → Reads times t (moment_answer (time_read t))
time_reads t = subst (Reads times t) (sym (asked_moment is_time (clock_instant (pos 0)) (clock_parts t)))
    (asked_reads times clock_parts is_time (λ clock. moment_answer (clock_instant (pos 0) clock)) (record {
      is = clock_parts_is;
      so = clock_parts_so;
      real_is = is_time_is;
      real_so = is_time_so;
      stood = λ clock fits r. stood_by times clock (moment_answer (clock_instant (pos 0) clock))
          (whole_nanos (pos 0) (pos (count_of clock)) (count_of clock * 10 ^ 9) clock.places (IsMoment (pos (count_of clock)) clock.places)
          (λ q e. (alone (10 ^ clock.places) (count_of clock) q e, least_nine clock.places))
          (λ m is. moment_whole (pos 0) m.nanos (10 ^ clock.places) (count_of clock) (one-le-pow clock.places 10 (omega arith)) (zero_days m.nanos (10 ^ clock.places) (count_of clock) is.0))
          (narrowed (pos (count_of clock * 10 ^ 9)) clock.places) refl);
    }) t)

pub stamp_reads : (t : List ℕ) → Reads stamps t (moment_answer (stamp_read t))
stamp_reads t = subst (Reads stamps t) (sym (asked_moment is_stamp (λ stamp. clock_instant (days_long (number_of stamp.day)) stamp.clock) (stamp_parts t)))
    (asked_reads stamps stamp_parts is_stamp (λ stamp. moment_answer (clock_instant (days_long (number_of stamp.day)) stamp.clock)) (record {
      is = stamp_parts_is;
      so = λ stamp fits. stamp_parts_so stamp fits.0 fits.1;
      real_is = is_stamp_is;
      real_so = is_stamp_so;
      stood = λ stamp fits r. stood_by stamps stamp (moment_answer (clock_instant (days_long (number_of stamp.day)) stamp.clock))
          (whole_nanos (days_long (number_of stamp.day)) (stamp_count stamp) (count_of stamp.clock * 10 ^ 9) stamp.clock.places (IsMoment (stamp_count stamp) stamp.clock.places)
          (λ q e. (moment_is (number_of stamp.day) (10 ^ stamp.clock.places) (count_of stamp.clock) q e, least_nine stamp.clock.places))
          (λ m is. moment_whole (number_of stamp.day) m.nanos (10 ^ stamp.clock.places) (count_of stamp.clock) (one-le-pow stamp.clock.places 10 (omega arith)) is.0)
          (narrowed (pos (count_of stamp.clock * 10 ^ 9)) stamp.clock.places) refl);
    }) t)
