use Rattle.std.proofs.Common.{ap}
use Rattle.printers.proofs.Printing.{then_prints, reprinted}
use Rattle.refused_items.specs.Refused.{back_text}
use Rattle.refused_items.proofs.encoding.put_encoding.Goals as goal

pub returns : goal.returns
returns g c = then_prints c.put_refused_front.ensures (then_prints c.put.ensures (reprinted (ap back_text c.digits_of.ensures) c.put_refused_back.ensures))
