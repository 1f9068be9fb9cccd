use Rattle.printers.proofs.Printing.{then_prints, reprinted}
use Rattle.tree_json.proofs.line.put_closed.Goals as goal

pub returns : goal.returns
returns g c = reprinted c.put_open.ensures.whole (then_prints c.put_open.ensures.printed c.put.ensures)
