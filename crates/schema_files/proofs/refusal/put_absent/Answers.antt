use Rattle.printers.proofs.Printing.{then_prints}
use Rattle.schema_files.proofs.refusal.put_absent.Goals as goal

pub returns : goal.returns
returns g c = then_prints c.put.ensures (then_prints c.put_role.ensures c.put-2.ensures)
