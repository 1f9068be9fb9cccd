use Rattle.std.proofs.Common.{arith, sym}
use Rattle.fix_dates.proofs.DayFacts.{day_apart, day_together}
use Rattle.fix_dates.proofs.day.day_in.Goals as goal

pub returns-then-text-ne8-clause-none : goal.returns-then-text-ne8-clause-none
returns-then-text-ne8-clause-none c = λ day fits e. absurd (omega (arith, (day_apart c.args.text.now day fits e).long))

pub returns-in_err-number-clause-none : goal.returns-in_err-number-clause-none
returns-in_err-number-clause-none c = rw c.from_residual.ensures (λ day fits e. cc (c.in_err-number.ensures.value, (day_apart c.args.text.now day fits e).year_read))

pub returns-in_err-number-2-clause-none : goal.returns-in_err-number-2-clause-none
returns-in_err-number-2-clause-none c = rw c.from_residual-in_err-number-2.ensures (λ day fits e. cc (c.in_err-number-2.ensures.value, (day_apart c.args.text.now day fits e).month_read))

pub returns-in_err-number-3-clause-none : goal.returns-in_err-number-3-clause-none
returns-in_err-number-3-clause-none c = rw c.from_residual-in_err-number-3.ensures (λ day fits e. cc (c.in_err-number-3.ensures.value, (day_apart c.args.text.now day fits e).number_read))

pub returns-clause-some : goal.returns-clause-some
returns-clause-some c =
    (day_together c.args.text.now c.in_ok-number.field-0 c.in_ok-number-2.field-0 c.in_ok-number-3.field-0 (record {
      long = c.if-text-ne8.false;
      year_read = sym c.in_ok-number.ensures.value;
      month_read = sym c.in_ok-number-2.ensures.value;
      number_read = sym c.in_ok-number-3.ensures.value;
    })).0
