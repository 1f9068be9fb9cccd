use Rattle.std.proofs.Common.{arith, ◌-◌, ◌<◌, length, sym}
use Rattle.fix_dates.proofs.ClockFacts.{fraction_apart, fraction_together}
use Rattle.fix_dates.proofs.clock.fraction_in.Goals as goal

pub returns-then-text-ne46-clause-none : goal.returns-then-text-ne46-clause-none
returns-then-text-ne46-clause-none c = λ fraction places few fits e.
    let some : 0 < length c.args.text.now = grind (arith, c.if-is_empty.ensures) in
    let r = fraction_apart c.args.text.now fraction places fits e some in
    grind (arith, r.point, r.long, r.some)

pub returns-in_err-fraction-clause-none : goal.returns-in_err-fraction-clause-none
returns-in_err-fraction-clause-none c = rw c.from_residual.ensures (λ fraction places few fits e. let r = fraction_apart c.args.text.now fraction places fits e (omega arith) in cc (c.in_err-fraction.ensures.value, r.fraction_read))

pub returns-clause-some : goal.returns-clause-some
returns-clause-some c =
    fraction_together c.args.text.now c.in_ok-fraction.fraction (length c.args.text.now - 1) (record {
      point = c.if-text-ne46.false;
      long = omega arith;
      some = omega arith;
      fraction_read = sym c.in_ok-fraction.ensures.value;
    })
