use Rattle.printers.proofs.Printing.{then_prints}
use Rattle.refused_items.proofs.refused.put_refused_front.Goals as goal

pub returns : goal.returns
returns g c =
    let code = rw c.as_bytes.ensures.value at c.put-2.ensures in
    then_prints c.put.ensures (then_prints code (then_prints c.put-3.ensures (then_prints c.put_count.ensures (then_prints c.put-4.ensures (then_prints c.put_offset.ensures c.put-5.ensures)))))
