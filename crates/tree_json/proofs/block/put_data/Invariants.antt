use Rattle.std.proofs.Common.{◌≡◌, ◌+◌, ℕ, List, ◌++◌, length, drop, false}
use Rattle.json_values.specs.Values.{zipped}
use Rattle.json_values.specs.Plain.{entries_text}
use Rattle.tree_json.specs.Views.{bytes_entry}
use Rattle.printers.specs.Prints.{Prints}
use Rattle.tree_json.proofs.block.put_data.Given as goal

abbrev pub invariant-loop-i : goal.invariant-loop-i
invariant-loop-i g l =
    record {
      count : l.i + length l.parts ≡ length l.block.parts;
      written : (done : List ℕ)
          × Prints g.O.Sink.state l.initial.printer l.printer done
          × (done ++ entries_text l.later (zipped bytes_entry (drop l.i l.block.parts) l.parts) ≡ entries_text false (zipped bytes_entry l.block.parts l.initial.parts));
    }
