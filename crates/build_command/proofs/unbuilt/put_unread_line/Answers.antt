use Rattle.printers.proofs.Printing.{then_prints}
use Rattle.build_command.proofs.unbuilt.put_unread_line.Goals as goal

pub returns : goal.returns
returns g c =
    let front = rw c.line_code.ensures at c.put_refused_front.ensures in
    then_prints front (then_prints c.put_text.ensures c.put.ensures)
