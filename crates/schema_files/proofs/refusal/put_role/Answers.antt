use Rattle.printers.proofs.Printing.{then_prints}
use Rattle.schema_files.proofs.refusal.put_role.Goals as goal

pub returns-in-Also : goal.returns-in-Also
returns-in-Also g c = rw c.in-Also.is (then_prints c.put-in-Also.ensures c.put_count.ensures)
