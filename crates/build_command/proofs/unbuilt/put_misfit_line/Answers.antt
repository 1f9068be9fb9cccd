use Rattle.printers.proofs.Printing.{then_prints}
use Rattle.build_command.proofs.unbuilt.put_misfit_line.Goals as goal

pub returns : goal.returns
returns g c =
    let front = rw c.misfit_code.ensures at c.put_refused_front.ensures in
    then_prints front (then_prints c.put.ensures (then_prints c.put_path.ensures c.put_back.ensures))
