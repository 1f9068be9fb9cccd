use Rattle.std.proofs.Common.{map}
use Rattle.reference_graph.specs.Walking.{steps_left}
use Rattle.structure_rows.specs.Walking.{Makes}
use Rattle.structure_rows.proofs.Making.{whole}
use Rattle.structure_rows.proofs.walk.structure_rows.Given as goal

abbrev pub invariant-places : goal.invariant-places
invariant-places l = Makes l.structures (whole l.structures l.i) l.rows (map (λ s. s.now) l.left.items)

abbrev pub decreases-places : goal.decreases-places
decreases-places l = steps_left l.structures (map (λ s. s.now) l.left.items)
