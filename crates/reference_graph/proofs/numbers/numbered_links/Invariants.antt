use Rattle.std.proofs.Common.{◌≡◌, map, take}
use Rattle.reference_graph.specs.Numbering.{numbered_link}
use Rattle.reference_graph.proofs.numbers.numbered_links.Given as goal

abbrev pub invariant-loop-link : goal.invariant-loop-link
invariant-loop-link l = l.all ≡ map (numbered_link l.last l.tags) (take l.link-index l.links)
