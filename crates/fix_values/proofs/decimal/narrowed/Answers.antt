use Rattle.std.proofs.Common.{ap, rules, FitsSigned, of_z}
use Rattle.std.specs.Int.{w128}
use Rattle.fix_values.proofs.DecimalLemmas.{far_narrowed, divides}
use Rattle.fix_values.proofs.decimal.narrowed.Goals as goal

pub returns-then-places-gt-MOST_DIGITS : goal.returns-then-places-gt-MOST_DIGITS
returns-then-places-gt-MOST_DIGITS c = far_narrowed c.args.number c.args.places c.ranges.number (λ e. c.if-number-eq0.false (ap (of_z w128) e)) c.if-places-gt-MOST_DIGITS.true

pub nonzero_rem-number : goal.nonzero_rem-number
nonzero_rem-number c =
    let fits : FitsSigned w128 c.ten_to-power.result = search rules in
    divides c.args.number c.ten_to-power.result c.args.places c.ranges.number fits c.ten_to-power.ensures
