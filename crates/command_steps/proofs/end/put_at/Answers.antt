use Rattle.printers.proofs.Printing.{then_prints}
use Rattle.command_steps.proofs.end.put_at.Goals as goal

pub returns : goal.returns
returns g c = then_prints c.put.ensures (then_prints c.put_count.ensures c.put-2.ensures)
