use Rattle.printers.proofs.Printing.{then_prints}
use Rattle.tofix_replies.proofs.notes.put_uncovered.Goals as goal

pub returns : goal.returns
returns g c = then_prints c.put_refused_front.ensures (then_prints c.put.ensures (then_prints c.put_names.ensures c.put_refused_back.ensures))
