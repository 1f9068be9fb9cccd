use Rattle.std.proofs.Common.{◌≡◌, drop}
use Rattle.typed_writer.specs.Steps.{unset_from}
use Rattle.typed_writer.proofs.marks.Marks.unset.Given as goal

abbrev pub invariant-loop-i : goal.invariant-loop-i
invariant-loop-i l = unset_from l.i (drop l.i l.fields) (drop l.i l.fn.self) ≡ unset_from 0 l.fields l.fn.self
