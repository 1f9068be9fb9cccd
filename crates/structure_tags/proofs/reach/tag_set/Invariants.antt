use Rattle.std.proofs.Common.{map}
use Rattle.reference_graph.specs.Walking.{steps_left}
use Rattle.structure_tags.proofs.Reached.{Goes}
use Rattle.structure_tags.proofs.reach.tag_set.Given as goal

abbrev pub invariant-places : goal.invariant-places
invariant-places l = Goes l.nodes l.fn.links l.entered.items l.tags (map (λ s. s.now) l.left.items)

abbrev pub decreases-places : goal.decreases-places
decreases-places l = steps_left l.nodes (map (λ s. s.now) l.left.items)
