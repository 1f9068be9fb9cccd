use Rattle.reference_graph.proofs.Carrying.{tags_carried}
use Rattle.reference_graph.proofs.laws.tags_are_those_of_the_structure.Goals as goal

pub returns : goal.returns
returns c = tags_carried
