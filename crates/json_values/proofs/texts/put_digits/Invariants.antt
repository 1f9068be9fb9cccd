use Rattle.std.proofs.Common.{◌≡◌, ℕ, List, ◌++◌, drop}
use Rattle.hex.specs.Hex.{encode_lower}
use Rattle.printers.specs.Prints.{Prints}
use Rattle.json_values.proofs.texts.put_digits.Given as goal

abbrev pub invariant-loop-byte : goal.invariant-loop-byte
invariant-loop-byte g l =
    (done : List ℕ)
    × Prints g.O.Sink.state l.initial.printer l.printer done
    × (done ++ encode_lower (drop l.byte-index l.bytes) ≡ encode_lower l.bytes)
