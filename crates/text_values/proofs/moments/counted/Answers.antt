use Rattle.std.proofs.Common.{◌≤◌, ap, ◌∙◌, arith, pos, to_z}
use Rattle.std.specs.Int.{w32, w128}
use Rattle.std.proofs.lemmas.Int.{to_z-of_z}
use Rattle.fix_values.specs.Decimals.{dec, fitted}
use Rattle.text_values.proofs.FarDecimals.{counted_in, small_is}
use Rattle.text_values.proofs.moments.counted.Goals as goal

pub returns : goal.returns
returns c =
    let places : c.saturating_sub-places.result ≤ 9 = omega (arith, c.saturating_sub-places.ensures) in
    c.fit_decimal.ensures
    ∙ ap (λ n. fitted (dec n (pos 0)) c.args.leaf.now (to_z w32 c.saturating_sub-places.result)) (to_z-of_z w128 c.args.nanos c.ranges.nanos)
    ∙ counted_in c.args.leaf.now c.args.nanos (to_z w32 c.saturating_sub-places.result) c.saturating_sub-places.result c.args.unit (small_is c.saturating_sub-places.result places) c.saturating_sub-places.ensures
