use Rattle.printers.proofs.Printing.{then_prints}
use Rattle.raw_steps.proofs.lines.put_garbled.Goals as goal

pub returns : goal.returns
returns g c =
    let front = rw c.code_name.ensures at c.put_refused_front.ensures in
    then_prints front (then_prints c.put.ensures c.put_detail.ensures)
