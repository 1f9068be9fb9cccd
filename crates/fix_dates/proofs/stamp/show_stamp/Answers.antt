use Rattle.std.proofs.Common.{◌≡◌, ◌<◌, ◌*◌, ◌^◌, sym, ap, ◌∙◌, pos, ◌+ℤ◌, ◌*ℤ◌, append_assoc, subst, rules, FitsSigned, to_z, of_z, to_z-of_z}
use mir.Syntax.{w128}
use Rattle.fix_dates.specs.Calendar.{number_of}
use Rattle.fix_dates.specs.Clocks.{count_of}
use Rattle.fix_dates.proofs.StampFacts.{one_day, count_below, day_fits}
use Rattle.fix_dates.proofs.stamp.show_stamp.Goals as goal

pub returns-in_default-day_of : goal.returns-in_default-day_of
returns-in_default-day_of c = (
  c.clear.ensures,
  λ text spells.
      let stamp = spells.parts in
      let days = c.days_and_rest-days.result.0 in
      let fits : FitsSigned w128 days = search rules in
      let n_fits : FitsSigned w128 c.args.n = search rules in
      let n_back : to_z w128 (of_z w128 c.args.n) ≡ c.args.n = to_z-of_z n_fits in
      let back : to_z w128 (of_z w128 days) ≡ days = to_z-of_z fits in
      let scale : 86_400 * 10 ^ stamp.clock.places ≡ c.in-Some.units = ap (λ k. 86_400 * 10 ^ k) spells.fits.1.places_are ∙ sym c.in-Some.ensures.some in
      let below : count_of stamp.clock < c.in-Some.units = subst (λ units. count_of stamp.clock < units) scale (count_below stamp.clock spells.fits.1.fits spells.real.1) in
      let long : (number_of stamp.day *ℤ pos c.in-Some.units) +ℤ pos (count_of stamp.clock) ≡ c.args.n = subst (λ units. (number_of stamp.day *ℤ pos units) +ℤ pos (count_of stamp.clock) ≡ c.args.n) scale spells.stands in
      let same = one_day c.in-Some.units (number_of stamp.day) days (count_of stamp.clock) c.days_and_rest-days.result.1 below c.days_and_rest-days.ensures.rest (long ∙ sym (c.days_and_rest-days.ensures.sum ∙ n_back)) in
      c.in_default-day_of.ensures.none stamp.day spells.real.0 spells.fits.0.year (same ∙ sym back),
)

pub returns : goal.returns
returns c =
    let clear = c.clear.ensures in
    let day = c.put_day.ensures.text in
    let dash = c.push.ensures in
    let time = c.put_clock.ensures.text in
    let number = c.in-Some-day_of.ensures.number in
    let count = c.clock_at.ensures.count in
    let unit = c.clock_at.ensures.fits.places_are in
    let units = c.in-Some.ensures.some in
    let sum = c.days_and_rest-days.ensures.sum in
    let days = c.days_and_rest-days.result.0 in
    let fits : FitsSigned w128 days = search rules in
    let n_fits : FitsSigned w128 c.args.n = search rules in
    let n_back : to_z w128 (of_z w128 c.args.n) ≡ c.args.n = to_z-of_z n_fits in
    let back : to_z w128 (of_z w128 days) ≡ days = to_z-of_z fits in
    record {
      parts = record { day = c.in-Some-day_of.day; clock = c.clock_at.result };
      fits = (day_fits c.in-Some-day_of.day c.in-Some-day_of.ensures.some c.in-Some-day_of.ensures.year, c.clock_at.ensures.fits);
      spelled = simp (time, dash, day, clear, append_assoc);
      real = (c.in-Some-day_of.ensures.some, c.clock_at.ensures.real);
      stands = rw (number, back, count, unit, ← units) (sum ∙ n_back);
    }
