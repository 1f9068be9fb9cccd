use Rattle.std.proofs.Common.{◌≡◌, ◌-◌, length}
use Rattle.reference_graph.specs.Learning.{IsSound, known}
use Rattle.reference_graph.proofs.learning.find_extents.Given as goal

abbrev pub invariant-rounds : goal.invariant-rounds
invariant-rounds l = record { long : length l.extents.items ≡ length l.nodes; sound : IsSound l.nodes l.extents.items }

abbrev pub decreases-rounds : goal.decreases-rounds
decreases-rounds l = length l.nodes - known l.extents.items
