use Rattle.std.proofs.Common.{arith, ◌≤◌, ◌^◌}
use Rattle.std.proofs.Math.Nat.{pow-le-pow_right}
use Rattle.fix_dates.proofs.digits.number.Goals as goal

pub overflow_mul-number : goal.overflow_mul-number
overflow_mul-number c =
    let small : 10 ^ c.loop-digit.digit-index ≤ 10 ^ 17 = pow-le-pow_right {n = 10} (omega arith) {i = c.loop-digit.digit-index} {j = 17} (omega arith) in
    omega (arith, c.loop-digit.invariant.1)

pub overflow_add-number : goal.overflow_add-number
overflow_add-number c =
    let small : 10 ^ c.loop-digit.digit-index ≤ 10 ^ 17 = pow-le-pow_right {n = 10} (omega arith) {i = c.loop-digit.digit-index} {j = 17} (omega arith) in
    let byte = c.type_inv.text c.loop-digit.digit-index in
    omega (arith, c.loop-digit.invariant.1)
