use Rattle.std.proofs.Common.{◌+◌, ◌-◌, ◌≤◌}
use Rattle.reference_graph.specs.Marking.{AreClear}
use Rattle.reference_graph.proofs.distinct.find_clear.Given as goal

abbrev pub invariant-passes : goal.invariant-passes
invariant-passes l = (l.first ≤ l.last + 128) × AreClear l.nodes l.first l.words.items

abbrev pub decreases-passes : goal.decreases-passes
decreases-passes l = l.last + 1 - l.first
