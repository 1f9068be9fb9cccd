use Rattle.std.proofs.Common.{arith, ◌≡◌, ◌^◌, rules, FitsSigned, w32, to_z, of_z, to_z-of_z}
use mir.Syntax.{w128}
use Rattle.std.proofs.Math.Nat.{one-le-pow}
use Rattle.fix_dates.specs.Calendar.{number_of}
use Rattle.fix_dates.specs.Clocks.{count_of}
use Rattle.fix_dates.proofs.StampFacts.{moment_is, moment_whole}
use Rattle.fix_dates.proofs.stamp.read_stamp.Goals as goal

pub returns-in_default-nanos_of : goal.returns-in_default-nanos_of
returns-in_default-nanos_of c =
    let stamp = c.in-Some.stamp in
    record {
      parts = stamp;
      fits = (c.in-Some.ensures.day, c.in-Some.ensures.clock);
      spelled = c.in-Some.ensures.some;
      real = (c.in-Some-number_of_day.ensures.real, search rules);
      inexact = λ moment stands.
          let rest = moment_whole (number_of stamp.day) moment.nanos (10 ^ stamp.clock.places) (count_of stamp.clock) (one-le-pow stamp.clock.places 10 (omega arith)) stands.0 in
          c.in_default-nanos_of.ensures.none rest.0 rest.1;
    }

pub returns : goal.returns
returns c =
    let stamp = c.in-Some.stamp in
    let number = c.in-Some-number_of_day.ensures.some in
    let sum = c.nanos_since.ensures in
    let nanos = c.nanos_since.result in
    let days = c.in-Some-number_of_day.days in
    let nanos_fit : FitsSigned w128 nanos = search rules in
    let days_fit : FitsSigned w32 days = search rules in
    let nanos_back : to_z w128 (of_z w128 nanos) ≡ nanos = to_z-of_z nanos_fit in
    let days_back : to_z w32 (of_z w32 days) ≡ days = to_z-of_z days_fit in
    record {
      parts = stamp;
      fits = (c.in-Some.ensures.day, c.in-Some.ensures.clock);
      spelled = c.in-Some.ensures.some;
      real = (c.in-Some-number_of_day.ensures.real, search rules);
      stands = (
        rw (nanos_back, sum, days_back, ← number) (moment_is (number_of stamp.day) (10 ^ stamp.clock.places) (count_of stamp.clock) c.in-Some-nanos_of.nanos c.in-Some-nanos_of.ensures.some),
        omega arith,
      );
    }
