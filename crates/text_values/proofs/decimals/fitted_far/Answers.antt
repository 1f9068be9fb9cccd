use Rattle.std.proofs.Common.{sym, ap, ◌∙◌, ◌≡◌, rules, arith, pos, ◌≤ℤ◌, FitsSigned, to_z, of_z}
use Rattle.std.specs.Int.{w128}
use Rattle.std.proofs.lemmas.Int.{ints, to_z-of_z}
use Rattle.text_values.proofs.FarDecimals.{fitted_above, fitted_below, zero_fitted}
use Rattle.text_values.proofs.decimals.fitted_far.Goals as goal

pub returns-then-mantissa-eq0 : goal.returns-then-mantissa-eq0
returns-then-mantissa-eq0 c =
    let fits : FitsSigned w128 c.args.number.now.mantissa = search rules in
    let zero : c.args.number.now.mantissa ≡ pos 0 = sym (to_z-of_z w128 c.args.number.now.mantissa fits) ∙ ap (to_z w128) c.if-mantissa-eq0.true in
    c.leaf_number.ensures ∙ sym (zero_fitted c.args.number.now c.args.leaf.now c.args.exponent zero)

pub returns-then-exponent-gt0 : goal.returns-then-exponent-gt0
returns-then-exponent-gt0 c =
    let fits : FitsSigned w128 c.args.number.now.mantissa = search rules in
    let high : pos 0 ≤ℤ c.args.exponent = grind (arith, ints) in
    sym (fitted_above c.args.number.now c.args.leaf.now c.args.exponent fits (λ e. c.if-mantissa-eq0.false (ap (of_z w128) e)) c.requires.near c.requires.far high)

pub returns : goal.returns
returns c =
    let low : FitsSigned w128 c.args.leaf.now.low = search rules in
    let high : FitsSigned w128 c.args.leaf.now.high = search rules in
    let below : c.args.exponent ≤ℤ pos 0 = grind (arith, ints) in
    sym (fitted_below c.args.number.now c.args.leaf.now c.args.exponent low high (λ e. c.if-mantissa-eq0.false (ap (of_z w128) e)) c.requires.near c.requires.far below)
