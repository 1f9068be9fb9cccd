use Rattle.std.proofs.Common.{length}
use Rattle.reference_graph.specs.Expansion.{places}
use Rattle.reference_graph.proofs.Chains.{enough_links}
use Rattle.reference_graph.proofs.laws.more_names_change_nothing.Goals as goal

pub returns : goal.returns
returns c graph links n ends below = enough_links places graph (length graph) n links below ends
