use Rattle.std.proofs.Common.{◌≡◌, ℕ, List, ◌++◌, drop, false}
use Rattle.json_values.specs.Values.{chosen}
use Rattle.json_values.specs.Plain.{plain_items}
use Rattle.printers.specs.Prints.{Prints}
use Rattle.json_values.proofs.sets.put_chosen.Given as goal

abbrev pub invariant-loop-choice : goal.invariant-loop-choice
invariant-loop-choice g l =
    (done : List ℕ)
    × Prints g.O.Sink.state l.initial.printer l.printer done
    × (done ++ plain_items l.later (chosen l.bits (drop l.choice-index l.names)) ≡ plain_items false (chosen l.bits l.names))
