use Rattle.std.proofs.Common.{◌≤◌, ◌^◌, arith}
use Rattle.std.proofs.Math.Nat.{pow-le-pow_right}
use Rattle.raw_walk.proofs.scan.number_of.Goals as goal

pub overflow_mul-number : goal.overflow_mul-number
overflow_mul-number c =
    let few : c.loop-digit.digit-index ≤ 8 = omega arith in
    let most : 10 ^ c.loop-digit.digit-index ≤ 10 ^ 8 = pow-le-pow_right {n = 10} (omega arith) few in
    omega (arith, c.loop-digit.invariant)

pub overflow_add-number : goal.overflow_add-number
overflow_add-number c =
    let few : c.loop-digit.digit-index ≤ 8 = omega arith in
    let most : 10 ^ c.loop-digit.digit-index ≤ 10 ^ 8 = pow-le-pow_right {n = 10} (omega arith) few in
    omega (arith, c.loop-digit.invariant, c.type_inv.value c.loop-digit.digit-index)
