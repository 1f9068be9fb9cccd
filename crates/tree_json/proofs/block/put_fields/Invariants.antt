use Rattle.std.proofs.Common.{◌≡◌, ℕ, List, ◌++◌, drop, false}
use Rattle.sbe_types.specs.declared.message.Block.{out-Block}
use Rattle.json_values.specs.Values.{zipped}
use Rattle.tree_json.specs.Lines.{field_entry}
use Rattle.json_values.specs.Plain.{entries_text}
use Rattle.printers.specs.Prints.{Prints}
use Rattle.tree_json.proofs.block.put_fields.Given as goal

abbrev pub invariant-loop-i : goal.invariant-loop-i
invariant-loop-i g l =
    (done : List ℕ)
    × Prints g.O.Sink.state l.initial.printer l.printer done
    × (done ++ entries_text l.later (zipped field_entry (drop l.i l.block.fields) (drop l.i (out-Block l.block.block).fields)) ≡ entries_text false (zipped field_entry l.block.fields (out-Block l.block.block).fields))
