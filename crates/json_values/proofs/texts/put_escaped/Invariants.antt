use Rattle.std.proofs.Common.{◌≡◌, ℕ, List, ◌++◌, drop}
use Rattle.json.specs.Print.{escape}
use Rattle.printers.specs.Prints.{Prints}
use Rattle.json_values.proofs.texts.put_escaped.Given as goal

abbrev pub invariant-loop-byte : goal.invariant-loop-byte
invariant-loop-byte g l =
    (done : List ℕ)
    × Prints g.O.Sink.state l.initial.printer l.printer done
    × (done ++ escape (drop l.byte-index l.bytes) ≡ escape l.bytes)
