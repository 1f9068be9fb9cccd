use Rattle.std.proofs.Common.{take}
use Rattle.printers.proofs.Printing.{reprinted}
use Rattle.json_values.proofs.Plainly.{quoted_plain}
use Rattle.json_values.proofs.texts.put_plain_front.Goals as goal

pub returns : goal.returns
returns g c = reprinted (quoted_plain (take c.args.run c.args.field.now) c.requires.plain) c.put_front_in_quotes.ensures
