use Rattle.printers.proofs.Printing.{then_prints, prints_nothing}
use Rattle.tosbe_command.proofs.notes.put_several.Goals as goal

pub returns : goal.returns
returns g c = then_prints c.put_refused_front.ensures (then_prints c.put.ensures (then_prints prints_nothing c.put_refused_back.ensures))
