use Rattle.std.proofs.Common.{arith}
use Rattle.fix_values.proofs.NumeralLemmas.{next_ge}
use Rattle.fix_values.proofs.digits.small_after.Goals as goal

pub overflow_mul-so_far : goal.overflow_mul-so_far
overflow_mul-so_far c =
    let more = next_ge c.loop-digit.so_far c.loop-digit.digit-index c.args.digits.now c.loop-digit-test.true c.loop-digit.invariant.digits in
    let small = c.requires.small in
    record { fits = omega (arith, more, c.loop-digit.invariant.same, small) }

pub overflow_add-so_far : goal.overflow_add-so_far
overflow_add-so_far c =
    let more = next_ge c.loop-digit.so_far c.loop-digit.digit-index c.args.digits.now c.loop-digit-test.true c.loop-digit.invariant.digits in
    let small = c.requires.small in
    record { fits = omega (arith, more, c.loop-digit.invariant.same, small) }
