use Rattle.std.proofs.Common.{arith, sym, ◌∙◌}
use Rattle.std.proofs.lemmas.List.{take_rest}
use Rattle.fix_dates.proofs.MonthFacts.{month_apart, month_together}
use Rattle.fix_dates.proofs.month.month_in.Goals as goal

pub returns-then-text-lt6-clause-none : goal.returns-then-text-lt6-clause-none
returns-then-text-lt6-clause-none c = λ month fits e. omega (arith, (month_apart c.args.text.now month fits e).long)

pub returns-in_err-year-clause-none : goal.returns-in_err-year-clause-none
returns-in_err-year-clause-none c = rw c.from_residual.ensures (λ month fits e. cc (c.in_err-year.ensures.value, (month_apart c.args.text.now month fits e).year_read))

pub returns-in_err-month-clause-none : goal.returns-in_err-month-clause-none
returns-in_err-month-clause-none c = rw c.from_residual-in_err-month.ensures (λ month fits e. cc (c.in_err-month.ensures.value, (month_apart c.args.text.now month fits e).month_read))

pub returns-in_err-part-clause-none : goal.returns-in_err-part-clause-none
returns-in_err-part-clause-none c = rw c.from_residual-in_err-part.ensures (λ month fits e.
    c.in_err-part.ensures.none month.part fits.part_fits (take_rest c.args.text.now 6 ∙ (month_apart c.args.text.now month fits e).rest))

pub returns-clause-some : goal.returns-clause-some
returns-clause-some c =
    month_together c.args.text.now _ (record {
      long = c.if-text-lt6.false;
      year_read = sym c.in_ok-year.ensures.value;
      month_read = sym c.in_ok-month.ensures.value;
      rest = sym (take_rest c.args.text.now 6) ∙ c.in_ok-part.ensures.some;
    })
