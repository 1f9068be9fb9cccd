use Rattle.std.proofs.Common.{ap, arith}
use Rattle.value_texts.proofs.row.put_checked.Goals as goal

pub returns-then-number-count-clause-put : goal.returns-then-number-count-clause-put
returns-then-number-count-clause-put c = λ lists unpaired within asks.
    let count = ap (λ p. p.0) c.counts-count.ensures in
    absurd (omega (arith, count, within, c.if-number-count.true))

pub returns-clause-put : goal.returns-clause-put
returns-clause-put c = λ lists unpaired within asks. c.put_field.ensures.put lists unpaired asks
