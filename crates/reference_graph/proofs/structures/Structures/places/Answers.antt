use Rattle.reference_graph.proofs.Asking.{answers_no_places, answers_places}
use Rattle.reference_graph.proofs.structures.Structures.places.Goals as goal

pub returns-in-None : goal.returns-in-None
returns-in-None c =
    answers_no_places c.self.inside.nodes c.args.self.now c.self.view_is c.self.inside.extents.items c.self.invariant.0 c.args.i c.requires c.index.result.now c.index.ensures c.in-None.is

pub returns-in-Some : goal.returns-in-Some
returns-in-Some c =
    answers_places c.self.inside.nodes c.args.self.now c.self.view_is c.self.inside.extents.items c.self.invariant.0 c.args.i c.requires c.index.result.now c.index.ensures c.in-Some.extent c.in-Some.is
