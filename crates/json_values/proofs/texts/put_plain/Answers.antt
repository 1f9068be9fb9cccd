use Rattle.printers.proofs.Printing.{reprinted}
use Rattle.json_values.proofs.Plainly.{quoted_plain}
use Rattle.json_values.proofs.texts.put_plain.Goals as goal

pub returns : goal.returns
returns g c = reprinted (quoted_plain c.args.bytes.now c.requires) c.put_in_quotes.ensures
