use Rattle.printers.proofs.Printing.{then_prints}
use Rattle.regrade_command.proofs.sums.put_sums.Goals as goal

pub returns : goal.returns
returns g c =
    let items = rw c.saturating_sub.ensures at c.put_count.ensures in
    then_prints c.put.ensures (then_prints items (then_prints c.put-2.ensures (then_prints c.put_count-2.ensures (then_prints c.put-3.ensures (then_prints c.put_count-3.ensures c.put-4.ensures)))))
