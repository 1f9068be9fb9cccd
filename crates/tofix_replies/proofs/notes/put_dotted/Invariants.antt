use Rattle.std.proofs.Common.{◌≡◌, ℕ, List, ◌++◌, drop}
use Rattle.printers.specs.Prints.{Prints}
use Rattle.tofix_replies.specs.Unsent.{dotted}
use Rattle.tofix_replies.proofs.notes.put_dotted.Given as goal

abbrev pub invariant-loop-name : goal.invariant-loop-name
invariant-loop-name g l =
    (done : List ℕ)
    × Prints g.N.Sink.state l.initial.printer l.printer done
    × (done ++ dotted (drop l.name-index l.names) ≡ dotted l.names)
