use Rattle.reference_graph.specs.Learning.{Passes}
use Rattle.reference_graph.proofs.learning.learn.Given as goal

abbrev pub invariant-loop-i : goal.invariant-loop-i
invariant-loop-i l = Passes l.nodes l.fn.extents.items l.i l.extents.items l.learned
