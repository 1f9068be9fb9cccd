use Rattle.std.proofs.Common.{sym}
use Rattle.json_values.proofs.Numbers.{number_is}
use Rattle.printers.proofs.Printing.{then_prints, reprinted}
use Rattle.refused_items.proofs.refused.put_refused_number.Goals as goal

pub returns : goal.returns
returns g c = then_prints c.put.ensures (then_prints (reprinted (sym (number_is c.args.detail.now)) c.put_number.ensures) c.put-2.ensures)
