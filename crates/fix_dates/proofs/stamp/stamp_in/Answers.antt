use Rattle.std.proofs.Common.{arith, ◌∙◌}
use Rattle.std.proofs.lemmas.List.{take_rest}
use Rattle.fix_dates.proofs.StampFacts.{stamp_apart}
use Rattle.fix_dates.proofs.stamp.stamp_in.Goals as goal

pub returns-then-text-lt9-clause-none : goal.returns-then-text-lt9-clause-none
returns-then-text-lt9-clause-none c = λ stamp day clock e.
    let parts = stamp_apart c.args.text.now stamp e in
    grind (arith, parts.long, parts.dash)

pub returns-in_err-day-clause-none : goal.returns-in_err-day-clause-none
returns-in_err-day-clause-none c = rw c.from_residual.ensures (λ stamp day clock e.
    c.in_err-day.ensures.none stamp.day day (stamp_apart c.args.text.now stamp e).day_first)

pub returns-in_err-clock-clause-none : goal.returns-in_err-clock-clause-none
returns-in_err-clock-clause-none c = rw c.from_residual-in_err-clock.ensures (λ stamp day clock e.
    c.in_err-clock.ensures.none stamp.clock clock (take_rest c.args.text.now 9 ∙ (stamp_apart c.args.text.now stamp e).clock_last))
