use Rattle.std.proofs.Common.{arith}
use Rattle.fix_dates.proofs.ClockFacts.{picos_fit, picos_whole, nanos_whole}
use Rattle.fix_dates.proofs.clock.fraction_nanos.Goals as goal

pub overflow_mul-picos : goal.overflow_mul-picos
overflow_mul-picos c = rw c.pow.ensures (omega (arith, picos_fit c.args.places c.args.fraction c.requires.few c.requires.fits))

pub returns-then-picos-ne0-clause-none : goal.returns-then-picos-ne0-clause-none
returns-then-picos-ne0-clause-none c = λ nanos e. omega (arith, picos_whole c.args.places c.args.fraction nanos c.requires.few e, rw c.pow.ensures at c.if-picos-ne0.true)

pub returns-clause-some : goal.returns-clause-some
returns-clause-some c = rw c.pow.ensures (nanos_whole c.args.places c.args.fraction c.requires.few (rw c.pow.ensures at c.if-picos-ne0.false))

pub returns-clause-bound : goal.returns-clause-bound
returns-clause-bound c = rw c.pow.ensures (omega (arith, picos_fit c.args.places c.args.fraction c.requires.few c.requires.fits))
