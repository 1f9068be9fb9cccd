use Rattle.std.proofs.Common.{arith, ◌<◌, inl, inr, length, sym}
use Rattle.fix_dates.proofs.MonthFacts.{part_long, part_apart, week_together, day_of_two}
use Rattle.fix_dates.proofs.month.part_in.Goals as goal

pub returns-then-text-ne2-clause-none : goal.returns-then-text-ne2-clause-none
returns-then-text-ne2-clause-none c = λ p fits e.
    let some : 0 < length c.args.text.now = grind (arith, c.if-is_empty.ensures) in
    elim (part_long c.args.text.now p e) [ inl none ↦ omega arith | inr two ↦ omega arith ]

pub returns-in_err-number-clause-none : goal.returns-in_err-number-clause-none
returns-in_err-number-clause-none c = rw c.from_residual.ensures (λ p fits e.
    elim (part_apart c.args.text.now p fits e c.if-text-ne2.false) [
      | inl week ↦ cc (c.in_err-number.ensures.value, week.week_read)
      | inr day ↦ day.digit c.if-text-eq119.true
    ])

pub returns-then-text-eq119-clause-some : goal.returns-then-text-eq119-clause-some
returns-then-text-eq119-clause-some c = week_together c.args.text.now c.in_ok-number.field-0 c.if-text-ne2.false c.if-text-eq119.true (sym c.in_ok-number.ensures.value)

pub returns-in_err-number-2-clause-none : goal.returns-in_err-number-2-clause-none
returns-in_err-number-2-clause-none c = rw c.from_residual-in_err-number-2.ensures (λ p fits e.
    elim (part_apart c.args.text.now p fits e c.if-text-ne2.false) [
      | inl week ↦ c.if-text-eq119.false week.letter
      | inr day ↦ cc (c.in_err-number-2.ensures.value, day.day_read)
    ])

pub returns-clause-some : goal.returns-clause-some
returns-clause-some c = day_of_two c.args.text.now c.in_ok-number-2.field-0 c.if-text-ne2.false (sym c.in_ok-number-2.ensures.value)
