use Rattle.printers.proofs.Printing.{then_prints}
use Rattle.dump_lines.proofs.refused.put_refusal.Goals as goal

pub returns : goal.returns
returns g c =
    let front = rw c.fault_code.ensures at c.put_refused_front.ensures in
    then_prints front (then_prints c.put.ensures (then_prints c.put_way.ensures c.put_refused_number.ensures))
