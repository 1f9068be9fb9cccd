use Rattle.std.proofs.Common.{ap}
use Rattle.printers.proofs.Printing.{reprinted}
use Rattle.refused_items.specs.Refused.{back_text}
use Rattle.fixcheck_command.proofs.lines.put_back.Goals as goal

pub returns-in-CheckSum : goal.returns-in-CheckSum
returns-in-CheckSum g c = rw c.in-CheckSum.is (reprinted (ap back_text c.three_digits.ensures) c.put_refused_back.ensures)
