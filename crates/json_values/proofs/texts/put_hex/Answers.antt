use Rattle.std.proofs.Common.{rules, ℕ, ◌<◌, slice_index}
use Rattle.printers.proofs.Printing.{then_prints, reprinted}
use Rattle.json_values.proofs.Plainly.{hex_is}
use Rattle.json_values.proofs.texts.put_hex.Goals as goal

pub returns : goal.returns
returns g c =
    let bytes : (i : ℕ) → slice_index c.args.bytes.now i < 256 = search rules in
    reprinted (hex_is c.args.bytes.now bytes) (then_prints c.put.ensures (then_prints c.put_digits.ensures c.put-2.ensures))
