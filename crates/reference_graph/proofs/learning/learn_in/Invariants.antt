use Rattle.reference_graph.specs.Learning.{Keeps}
use Rattle.reference_graph.proofs.learning.learn_in.Given as goal

abbrev pub invariant-loop-i : goal.invariant-loop-i
invariant-loop-i l = Keeps l.nodes l.fn.extents.items l.extents.items
