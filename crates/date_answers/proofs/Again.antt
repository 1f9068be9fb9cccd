-- A moment that was read of a text has a text again, in each unit in which it is whole.
use Rattle.std.proofs.Common.{◌≡◌, inl, inr, ℕ, zero, suc, ◌+◌, ◌-◌, ◌*◌, ◌^◌, ◌<◌, ◌≤◌, true, false, List, Ok, refl, sym, ap, ◌∙◌, subst, arith, ℤ, pos, negsuc, neg_ℤ, ◌+ℤ◌, ◌*ℤ◌}
use Rattle.std.specs.Prelude.{nat_lt}
use Rattle.std.proofs.Math.Nat.{one-le-pow}
use Rattle.std.proofs.lemmas.Bool.Decides.{nat_tests}
use Rattle.jiff_core.proofs.SignedLemmas.{signed_arith}
use borrow.Author.Differences.{up, down}
use Rattle.fix_values.specs.Decimals.{widened}
use Rattle.fix_dates.specs.Calendar.{number_of}
use Rattle.fix_dates.specs.Clocks.{IsUnit, count_of}
use Rattle.fix_dates.specs.Reading.{Spells, Reads}
use Rattle.fix_dates.specs.Stamps.{times, stamps}
use Rattle.fix_dates.proofs.StampFacts.{count_below, one_day, moment_is, moment_whole}
use Rattle.date_answers.specs.Answers.{Instant, as_moment, moment_answer, time_read, stamp_read, time_shown, stamp_shown, units_of_a_day, days_in, left_in}
use Rattle.date_answers.proofs.Joined.{time_reads, stamp_reads}
use Rattle.date_answers.proofs.Shown.{split_is, time_counted, stamp_counted}
use Rattle.date_answers.proofs.Parts.{either}

-- how many nanoseconds a day has
abbrev day_nanos : ℕ
day_nanos = 86_400_000_000_000

low_is : (a b : ℕ) → nat_lt a b ≡ true → a < b
low_is a b h = grind (arith, nat_tests)

low_not : (a b : ℕ) → nat_lt a b ≡ false → b ≤ a
low_not a b h = grind (arith, nat_tests)

-- a rest that is as long as less than a day is less than a day
short_rest : (rest power count : ℕ) → 0 < power → rest * power ≡ count * 10 ^ 9 → count < 86_400 * power → rest < day_nanos
short_rest rest power count some same few = elim (either (nat_lt rest day_nanos)) [
  | inl t ↦ low_is rest day_nanos t
  | inr f ↦
      let more : day_nanos ≤ rest = low_not rest day_nanos f in
      let left = rest - day_nanos in
      let split : rest ≡ day_nanos + left = omega arith in
      let long : rest * power ≡ (day_nanos + left) * power = ap (λ k. k * power) split in
      absurd (omega (arith, same, few, long))
]

-- nanoseconds that are as long as whole days and less than a day, cut there
record IsCut (days nanos : ℤ) : Type 0 where
  rest : ℕ
  whole : nanos ≡ (days *ℤ pos day_nanos) +ℤ pos rest
  short : rest < day_nanos

cut_at : (days nanos : ℤ) (power count : ℕ) → 0 < power → count < 86_400 * power → nanos *ℤ pos power ≡ ((days *ℤ pos (86_400 * power)) +ℤ pos count) *ℤ pos (10 ^ 9) → IsCut days nanos
cut_at days nanos power count some few same =
    let part = moment_whole days nanos power count some same in
    let whole = (days *ℤ pos day_nanos) +ℤ pos part.0 in
    let alike : nanos *ℤ pos power ≡ whole *ℤ pos power = same ∙ sym (moment_is days power count part.0 part.1) in
    record { rest = part.0; whole = one_day power nanos whole 0 0 some some (ap (λ z. z +ℤ pos 0) alike); short = short_rest part.0 power count some part.1 few }

-- ---- in a unit

widened_as : (n : ℤ) (k : ℕ) → widened n k ≡ n *ℤ pos (10 ^ k)
widened_as (pos m) k =
    let power = 10 ^ k in
    let own : widened (pos m) k ≡ pos (m * power) = refl in
    own ∙ omega (arith, signed_arith)
widened_as (negsuc m) k =
    let power = 10 ^ k in
    let own : widened (negsuc m) k ≡ neg_ℤ (pos ((m + 1) * power)) = ap (λ a. neg_ℤ (pos (a * power))) (omega arith) in
    own ∙ omega (arith, signed_arith)

-- the days of a count of units, where it is so many days and less than one
same_days : (n days : ℤ) (units power rest : ℕ) → units * power ≡ day_nanos → 0 < units → n *ℤ pos power ≡ (days *ℤ pos day_nanos) +ℤ pos rest → rest < day_nanos → days ≡ days_in n units
same_days n days units power rest long some same short =
    let split = split_is n units some in
    let d = days_in n units in
    let left = left_in n units in
    let part : left * power < day_nanos = low left split.1 in
    let spread : (d *ℤ pos (units * power)) +ℤ pos (left * power) ≡ n *ℤ pos power = sum d left ∙ ap (λ z. z *ℤ pos power) split.0 in
    let whole : (d *ℤ pos day_nanos) +ℤ pos (left * power) ≡ n *ℤ pos power = ap (λ k. (d *ℤ pos k) +ℤ pos (left * power)) (sym long) ∙ spread in
    one_day day_nanos days d rest (left * power) short part (sym same ∙ sym whole)
  where
    low : (left : ℕ) → left < units → left * power < day_nanos
    low left few =
        let more = units - left - 1 in
        let split : units ≡ left + 1 + more = omega arith in
        let all : units * power ≡ (left + 1 + more) * power = ap (λ k. k * power) split in
        omega (arith, all, long, positive power long)
      where
        positive : (p : ℕ) → units * p ≡ day_nanos → 0 < p
        positive zero h = absurd (omega (arith, h))
        positive (suc p) h = omega arith

    sum : (d : ℤ) (left : ℕ) → (d *ℤ pos (units * power)) +ℤ pos (left * power) ≡ ((d *ℤ pos units) +ℤ pos left) *ℤ pos power
    sum d left =
        let whole = (d *ℤ pos units) +ℤ pos left in
        let parts : up whole + down d * units ≡ down whole + up d * units + left = omega (arith, signed_arith) in
        let scaled : (up whole + down d * units) * power ≡ (down whole + up d * units + left) * power = ap (λ k. k * power) parts in
        omega (arith, signed_arith)

unit_long : (unit : ℕ) → IsUnit unit → units_of_a_day unit * 10 ^ (9 - unit) ≡ day_nanos
unit_long unit (inl e) = ap (λ u. units_of_a_day u * 10 ^ (9 - u)) e
unit_long unit (inr (inl e)) = ap (λ u. units_of_a_day u * 10 ^ (9 - u)) e
unit_long unit (inr (inr (inl e))) = ap (λ u. units_of_a_day u * 10 ^ (9 - u)) e
unit_long unit (inr (inr (inr e))) = ap (λ u. units_of_a_day u * 10 ^ (9 - u)) e

some_units : (unit : ℕ) → 0 < units_of_a_day unit
some_units unit = let power : 0 < 10 ^ unit = one-le-pow unit 10 (omega arith) in omega (arith, power)

-- the days of an instant in a unit
unit_days : (n days nanos : ℤ) (unit : ℕ) → IsUnit unit → widened n (9 - unit) ≡ nanos → IsCut days nanos → days ≡ days_in n (units_of_a_day unit)
unit_days n days nanos unit known wide cut =
    same_days n days (units_of_a_day unit) (10 ^ (9 - unit)) cut.rest (unit_long unit known) (some_units unit) (sym (widened_as n (9 - unit)) ∙ wide ∙ cut.whole) cut.short

-- ---- texts

some_power : (k : ℕ) → 0 < 10 ^ k
some_power k = one-le-pow k 10 (omega arith)

-- a time of day that was read of a text has one in each unit in which it is whole
pub midnight_again : (t : List ℕ) (i : Instant) (n : ℤ) (unit : ℕ) → time_read t ≡ Ok i → IsUnit unit → widened n (9 - unit) ≡ i.nanos → (u : List ℕ) × (time_shown unit n ≡ Ok u)
midnight_again t i n unit read known wide =
    let s : Spells times t (as_moment i) = subst (λ r. Reads times t (moment_answer r)) read (time_reads t) in
    let clock = s.parts in
    let power = 10 ^ clock.places in
    let long : i.nanos *ℤ pos power ≡ ((pos 0 *ℤ pos (86_400 * power)) +ℤ pos (count_of clock)) *ℤ pos (10 ^ 9) = no_days i.nanos power (count_of clock) s.stands.0 in
    let cut = cut_at (pos 0) i.nanos power (count_of clock) (some_power clock.places) (count_below clock s.fits s.real) long in
    let units = units_of_a_day unit in
    let none = unit_days n (pos 0) i.nanos unit known wide cut in
    let split = split_is n units (some_units unit) in
    let is : pos (left_in n units) ≡ n = alone (left_in n units) (days_in n units) n (sym none) split.0 in
    subst (λ z. (u : List ℕ) × (time_shown unit z ≡ Ok u)) is (time_counted unit (left_in n units) known split.1)
  where
    no_days : (nanos : ℤ) (power count : ℕ) → nanos *ℤ pos power ≡ pos count *ℤ pos (10 ^ 9) → nanos *ℤ pos power ≡ ((pos 0 *ℤ pos (86_400 * power)) +ℤ pos count) *ℤ pos (10 ^ 9)
    no_days nanos power count h = omega (arith, signed_arith, h)

    alone : (left : ℕ) (days n : ℤ) → days ≡ pos 0 → (days *ℤ pos (units_of_a_day unit)) +ℤ pos left ≡ n → pos left ≡ n
    alone left days n none h =
        let own : (pos 0 *ℤ pos (units_of_a_day unit)) +ℤ pos left ≡ n = subst (λ d. (d *ℤ pos (units_of_a_day unit)) +ℤ pos left ≡ n) none h in
        omega (arith, signed_arith, own)

-- the same of a moment
pub stamp_again : (t : List ℕ) (i : Instant) (n : ℤ) (unit : ℕ) → stamp_read t ≡ Ok i → IsUnit unit → widened n (9 - unit) ≡ i.nanos → (u : List ℕ) × (stamp_shown unit n ≡ Ok u)
stamp_again t i n unit read known wide =
    let s : Spells stamps t (as_moment i) = subst (λ r. Reads stamps t (moment_answer r)) read (stamp_reads t) in
    let clock = s.parts.clock in
    let day = s.parts.day in
    let cut = cut_at (number_of day) i.nanos (10 ^ clock.places) (count_of clock) (some_power clock.places) (count_below clock s.fits.1 s.real.1) s.stands.0 in
    stamp_counted unit n day known s.real.0 s.fits.0.year (unit_days n (number_of day) i.nanos unit known wide cut)
