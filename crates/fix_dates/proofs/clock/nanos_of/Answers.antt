use Rattle.std.proofs.Common.{arith, ◌+◌, ◌*◌, ◌^◌}
use Rattle.std.proofs.Math.Nat.{one-le-pow}
use Rattle.fix_dates.proofs.ClockFacts.{rest_whole}
use Rattle.fix_dates.proofs.clock.nanos_of.Goals as goal

pub returns-in_err-rest-clause-none : goal.returns-in_err-rest-clause-none
returns-in_err-rest-clause-none c = rw c.from_residual.ensures (λ nanos e.
    let clock = c.args.clock.now in
    let rest = rest_whole (10 ^ clock.places) ((clock.hour * 60 + clock.minute) * 60 + clock.second) clock.fraction nanos (one-le-pow clock.places 10 (omega arith)) e in
    c.in_err-rest.ensures.none rest.0 rest.1)
