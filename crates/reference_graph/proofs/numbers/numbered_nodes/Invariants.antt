use Rattle.std.proofs.Common.{◌≡◌, map, take}
use Rattle.reference_graph.specs.Numbering.{numbered_node}
use Rattle.reference_graph.proofs.numbers.numbered_nodes.Given as goal

abbrev pub invariant-loop-node : goal.invariant-loop-node
invariant-loop-node l = l.all ≡ map (numbered_node l.last l.tags) (take l.node-index l.nodes)
