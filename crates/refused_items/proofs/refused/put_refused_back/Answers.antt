use Rattle.printers.proofs.Printing.{then_prints}
use Rattle.refused_items.proofs.refused.put_refused_back.Goals as goal

pub returns : goal.returns
returns g c = then_prints c.put.ensures (then_prints c.put-2.ensures c.put-3.ensures)
