use Rattle.std.proofs.Common.{arith, ◌∙◌, subst, sym, refl, Err, ap, ◌^◌, ◌≡◌, true, int_le, pos}
use Rattle.fix_values.proofs.NumeralLemmas.{cast_is}
use Rattle.fix_values.specs.declared.rule.V.TheVariants.{Range}
use Rattle.fix_values.specs.Values.{Leaves}
use Rattle.fix_values.proofs.DecimalLemmas.{ten_pos, rest_small, text_below, below_zero_is, text_over, abs_same}
use Rattle.std.specs.Int.{w128, w32}
use Rattle.std.proofs.lemmas.Int.{ints}
use Rattle.fix_values.proofs.decimal.show_decimal.Goals as goal

pub nonzero_div-size : goal.nonzero_div-size
nonzero_div-size c = rw c.pow-power.ensures (ten_pos _)

pub nonzero_rem-size : goal.nonzero_rem-size
nonzero_rem-size c = rw c.pow-power.ensures (ten_pos _)

pub put_decimal-requires-clause-rest : goal.put_decimal-requires-clause-rest
put_decimal-requires-clause-rest c = rest_small c.unsigned_abs-places.result c.unsigned_abs-size.result c.pow-power.result c.pow-power.ensures

pub returns-then-exponent-lt0 : goal.returns-then-exponent-lt0
returns-then-exponent-lt0 c =
    let same = text_below c.args.mantissa c.args.exponent _ c.unsigned_abs-size.result c.pow-power.result c.unsigned_abs-places.result (grind (arith, ints)) (grind (arith, ints)) (grind (arith, ints)) (below_zero_is c.args.mantissa c.ranges.mantissa) (c.unsigned_abs-size.ensures.value ∙ abs_same w128 c.args.mantissa c.ranges.mantissa) (c.unsigned_abs-places.ensures.value ∙ abs_same w32 c.args.exponent c.ranges.exponent) c.pow-power.ensures in
    subst (Leaves c.put_decimal.result c.put_decimal.new.out) same c.put_decimal.ensures

pub returns-in-None : goal.returns-in-None
returns-in-None c =
    let above : int_le (pos 0) c.args.exponent ≡ true = grind (arith, ints) in
    let ten = c.pow.ensures ∙ ap (λ k. 10 ^ k) (cast_is w32 c.args.exponent c.ranges.exponent above) in
    let same = text_over c.args.mantissa c.args.exponent c.unsigned_abs-size.result c.pow.result c.ranges.mantissa (grind (arith, ints)) (grind (arith, ints)) above
    (c.unsigned_abs-size.ensures.value ∙ abs_same w128 c.args.mantissa c.ranges.mantissa) ten c.in-None.ensures in
    subst (Leaves (Err Range) c.clear.new.self) (sym same) (refl, c.clear.ensures)
