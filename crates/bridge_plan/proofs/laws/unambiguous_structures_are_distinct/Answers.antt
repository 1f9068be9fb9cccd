use Rattle.std.proofs.Common.{ap, ◌∙◌}
use Rattle.reference_graph.specs.Structures.{has_twice}
use Rattle.reference_graph.specs.Expansion.{structure_of}
use Rattle.reference_graph.proofs.Carrying.{tags_carried}
use Rattle.bridge_plan.proofs.Distinct.{distinct_of}
use Rattle.bridge_plan.proofs.laws.unambiguous_structures_are_distinct.Goals as goal

pub returns : goal.returns
returns c = λ graph links h. distinct_of (structure_of graph links) (ap has_twice (tags_carried graph links) ∙ h)
