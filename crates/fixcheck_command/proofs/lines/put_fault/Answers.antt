use Rattle.printers.proofs.Printing.{then_prints}
use Rattle.fixcheck_command.proofs.lines.put_fault.Goals as goal

pub returns : goal.returns
returns g c =
    let front = rw c.fault_code.ensures at c.put_refused_front.ensures in
    then_prints front (then_prints c.put.ensures c.put_back.ensures)
