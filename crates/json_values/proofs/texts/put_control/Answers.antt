use Rattle.std.proofs.Common.{rules, ◌<◌}
use Rattle.printers.proofs.Printing.{then_prints, reprinted}
use Rattle.json_values.proofs.Plainly.{control_is}
use Rattle.json_values.proofs.texts.put_control.Goals as goal

pub returns : goal.returns
returns g c =
    let within : c.args.byte < 256 = search rules in
    reprinted (control_is c.args.byte _ _ within c.hex_digit.ensures c.hex_digit-2.ensures) (then_prints c.put.ensures c.put-2.ensures)
