use Rattle.std.proofs.Common.{◌≡◌, ◌≤ℤ◌, ◌+ℤ◌, ◌+◌, ◌%◌, ◌/◌, pos, ℤ, subst, sym, rules, arith, FitsSigned, to_z, of_z}
use Rattle.std.specs.Int.{w128}
use Rattle.std.proofs.lemmas.Int.{ints, to_z-of_z}
use Rattle.std.proofs.lemmas.Nat.{div-add-mod'}
use Rattle.fix_values.specs.Decimals.{dec, SameFraction}
use Rattle.reduced_decimals.proofs.Forms.{more_zeros}
use Rattle.reduced_decimals.proofs.reduced.without_zeros.Goals as goal

pub loop-done-preserved : goal.loop-done-preserved
loop-done-preserved c =
    let x = c.loop-done.left in
    let e = to_z w128 c.loop-done.moved-bits in
    let f = to_z w128 (of_z w128 c.args.exponent) in
    let none : x % 10 ≡ 0 = search rules in
    let fits : FitsSigned w128 (e +ℤ pos 1) = subst (λ z. FitsSigned w128 (z +ℤ pos 1)) (sym c.loop-done.moved-is) (search rules) in
    let next = sym (to_z-of_z w128 (e +ℤ pos 1) fits) in
    let most : e ≤ℤ pos (18 + c.loop-done.done) = c.loop-done.invariant.high in
    let high : (e +ℤ pos 1) ≤ℤ pos (18 + (c.loop-done.done + 1)) = omega (arith, ints, most) in
    record {
      some = omega (arith, div-add-mod' x 10, none, c.loop-done.invariant.some);
      high = subst (λ (z : ℤ). z ≤ℤ pos (18 + (c.loop-done.done + 1))) next high;
      same = subst (λ z. SameFraction (dec (pos (x / 10)) z) (dec (pos c.args.size) f)) next (more_zeros x c.args.size e f none c.loop-done.invariant.same);
    }
