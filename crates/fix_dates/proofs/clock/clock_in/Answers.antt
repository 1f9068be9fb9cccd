use Rattle.std.proofs.Common.{arith, sym, ◌∙◌}
use Rattle.std.proofs.lemmas.List.{take_rest}
use Rattle.fix_dates.proofs.ClockFacts.{clock_apart, clock_together}
use Rattle.fix_dates.proofs.clock.clock_in.Goals as goal

pub returns-then-text-lt8-clause-none : goal.returns-then-text-lt8-clause-none
returns-then-text-lt8-clause-none c = λ clock fits e.
    let r = clock_apart c.args.text.now clock fits e in
    grind (arith, r.long, r.first_colon, r.second_colon)

pub returns-in_err-hour-clause-none : goal.returns-in_err-hour-clause-none
returns-in_err-hour-clause-none c = rw c.from_residual.ensures (λ clock fits e. cc (c.in_err-hour.ensures.value, (clock_apart c.args.text.now clock fits e).hour_read))

pub returns-in_err-minute-clause-none : goal.returns-in_err-minute-clause-none
returns-in_err-minute-clause-none c = rw c.from_residual-in_err-minute.ensures (λ clock fits e. cc (c.in_err-minute.ensures.value, (clock_apart c.args.text.now clock fits e).minute_read))

pub returns-in_err-second-clause-none : goal.returns-in_err-second-clause-none
returns-in_err-second-clause-none c = rw c.from_residual-in_err-second.ensures (λ clock fits e. cc (c.in_err-second.ensures.value, (clock_apart c.args.text.now clock fits e).second_read))

pub returns-in_err-fraction-clause-none : goal.returns-in_err-fraction-clause-none
returns-in_err-fraction-clause-none c = rw c.from_residual-in_err-fraction.ensures (λ clock fits e.
    let after = (clock_apart c.args.text.now clock fits e).rest in
    c.in_err-fraction.ensures.none clock.fraction clock.places fits.few fits.fraction_fits (take_rest c.args.text.now 8 ∙ after))

pub returns-clause-some : goal.returns-clause-some
returns-clause-some c =
    (clock_together c.args.text.now _ (record {
      long = c.if-text-lt8.false;
      first_colon = c.if-text-ne58.false;
      second_colon = c.if-text-ne58-2.false;
      hour_read = sym c.in_ok-hour.ensures.value;
      minute_read = sym c.in_ok-minute.ensures.value;
      second_read = sym c.in_ok-second.ensures.value;
      rest = sym (take_rest c.args.text.now 8) ∙ c.in_ok-fraction.ensures.some;
    })).0
