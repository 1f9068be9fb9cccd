use Rattle.reference_graph.proofs.Carrying.{depth_carried}
use Rattle.reference_graph.proofs.laws.depth_is_that_of_the_structure.Goals as goal

pub returns : goal.returns
returns c = depth_carried
