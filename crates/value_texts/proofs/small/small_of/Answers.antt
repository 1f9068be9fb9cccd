use Rattle.std.proofs.Common.{rules, ◌≡◌, ◌≤◌, ◌<◌, ◌^◌, ◌∙◌, arith, unsigned_abs}
use Rattle.std.specs.Int.{w128}
use Rattle.std.proofs.lemmas.Int.{ints}
use Rattle.fix_values.proofs.DecimalLemmas.{abs_same, below_zero_is}
use Rattle.value_texts.proofs.SmallDecimals.{small_text}
use Rattle.value_texts.proofs.small.small_of.Goals as goal

pub returns-in-Ok-clause-text : goal.returns-in-Ok-clause-text
returns-in-Ok-clause-text c =
    let size : c.in-Ok.size ≡ unsigned_abs c.args.mantissa = c.in-Ok.ensures.1 ∙ (c.unsigned_abs.ensures.value ∙ abs_same w128 c.args.mantissa c.ranges.mantissa) in
    let places : c.unsigned_abs-in-Ok.result ≡ unsigned_abs c.args.exponent = c.unsigned_abs-in-Ok.ensures.value ∙ abs_same w128 c.args.exponent c.ranges.exponent in
    let small : c.in-Ok.size < 2 ^ 64 = omega (arith, c.in-Ok.ensures.0, c.in-Ok.ensures.1) in
    let few : c.unsigned_abs-in-Ok.result ≤ 18 = search rules in
    small_text c.args.mantissa c.args.exponent _ (grind (arith, ints)) (grind (arith, ints)) (grind (arith, ints)) (below_zero_is c.args.mantissa c.ranges.mantissa) size places small few
