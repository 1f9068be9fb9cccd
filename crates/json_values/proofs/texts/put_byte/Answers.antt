use Rattle.printers.proofs.Printing.{reprinted}
use Rattle.json_values.proofs.texts.put_byte.Goals as goal

pub returns : goal.returns
returns g c = reprinted c.hex_pair.ensures c.put.ensures
