use Rattle.std.proofs.Common.{◌∙◌, arith, ap, sym, length, ◌<◌}
use Rattle.std.proofs.Math.Nat.{pos_of_ne-zero}
use Rattle.fix_values.proofs.DecimalLemmas.{whole_kept, zero_left_out}
use Rattle.fix_values.proofs.decimal.put_whole.Goals as goal

pub returns-then-whole-eq0-clause-count : goal.returns-then-whole-eq0-clause-count
returns-then-whole-eq0-clause-count c = sym (ap length (zero_left_out c.args.whole c.if-whole-eq0.true))

pub returns-else-whole-eq0-clause-count : goal.returns-else-whole-eq0-clause-count
returns-else-whole-eq0-clause-count c =
    let some : 0 < c.args.whole = pos_of_ne-zero c.if-whole-eq0.false in
    ap length (c.as_bytes-digits.ensures.value ∙ c.format.ensures.text ∙ sym (whole_kept c.args.whole some (omega (arith, c.ranges.whole.fits))))
