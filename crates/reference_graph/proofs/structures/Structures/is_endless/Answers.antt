use Rattle.reference_graph.proofs.Asking.{answers_endless}
use Rattle.reference_graph.proofs.structures.Structures.is_endless.Goals as goal

pub returns : goal.returns
returns c = answers_endless c.self.inside.nodes c.args.self.now c.self.view_is c.self.inside.extents.items c.self.invariant.0 c.args.i c.requires c.index.result.now c.index.ensures c.is_none.result c.is_none.ensures
