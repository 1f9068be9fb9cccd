use Rattle.printers.proofs.Printing.{then_prints}
use Rattle.regrade_command.proofs.lines.put_no_fill.Goals as goal

pub returns : goal.returns
returns g c = then_prints c.put_refused_front.ensures (then_prints c.put.ensures (then_prints c.put_path.ensures c.put_refused_back.ensures))
