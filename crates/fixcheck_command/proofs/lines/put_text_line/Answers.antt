use Rattle.printers.proofs.Printing.{then_prints}
use Rattle.fixcheck_command.proofs.lines.put_text_line.Goals as goal

pub returns : goal.returns
returns g c =
    then_prints c.put.ensures (then_prints c.put_count.ensures (then_prints c.put-2.ensures (then_prints c.put_text.ensures (then_prints c.put-3.ensures (then_prints c.put_count-2.ensures c.put-4.ensures)))))
