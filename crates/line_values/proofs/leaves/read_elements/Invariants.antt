use Rattle.std.proofs.Common.{◌≡◌, drop}
use Rattle.json_data.specs.Trees.{items_of}
use Rattle.line_values.specs.Objects.{each}
use Rattle.line_values.specs.Values.{element_in}
use Rattle.line_values.proofs.ListSteps.{with_front}
use Rattle.line_values.proofs.leaves.read_elements.Given as goal

abbrev pub invariant-loop-i : goal.invariant-loop-i
invariant-loop-i l = with_front l.out (each (element_in l.nulls) l.i (items_of (drop l.i l.items))) ≡ each (element_in l.nulls) 0 (items_of l.items)
