use Rattle.std.proofs.Common.{ap, of_z}
use Rattle.std.specs.Int.{w128}
use Rattle.fix_values.proofs.DecimalLemmas.{far_widened}
use Rattle.fix_values.proofs.decimal.widened.Goals as goal

pub returns-then-places-gt-MOST_DIGITS : goal.returns-then-places-gt-MOST_DIGITS
returns-then-places-gt-MOST_DIGITS c = far_widened c.args.number c.args.places (λ e. c.if-number-eq0.false (ap (of_z w128) e)) c.if-places-gt-MOST_DIGITS.true
