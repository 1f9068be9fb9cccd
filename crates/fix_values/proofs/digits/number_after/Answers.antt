use Rattle.std.proofs.Common.{arith}
use Rattle.fix_values.proofs.NumeralLemmas.{next_ge}
use Rattle.fix_values.proofs.digits.number_after.Goals as goal

pub returns-in_err-checked_mul : goal.returns-in_err-checked_mul
returns-in_err-checked_mul c =
    let more = next_ge c.loop-digit.so_far c.loop-digit.digit-index c.args.digits.now c.loop-digit-test.true c.loop-digit.invariant.digits in
    rw c.from_residual.ensures (λ fits. c.in_err-checked_mul.ensures (omega (arith, more)))

pub returns-in_err-so_far : goal.returns-in_err-so_far
returns-in_err-so_far c =
    let more = next_ge c.loop-digit.so_far c.loop-digit.digit-index c.args.digits.now c.loop-digit-test.true c.loop-digit.invariant.digits in
    rw c.from_residual-in_err-so_far.ensures (λ fits. c.in_err-so_far.ensures (omega (arith, more)))
