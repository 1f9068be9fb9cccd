use Rattle.reference_graph.specs.Marking.{Passed}
use Rattle.reference_graph.proofs.distinct.pass.Given as goal

abbrev pub invariant-loop-i : goal.invariant-loop-i
invariant-loop-i l = Passed l.nodes l.first l.before l.words.items
