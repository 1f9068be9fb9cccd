use Rattle.std.proofs.Common.{◌≡◌, drop}
use Rattle.reference_graph.specs.Learning.{empty, links_extent}
use Rattle.reference_graph.proofs.learning.links_extent.Given as goal

abbrev pub invariant-loop-link : goal.invariant-loop-link
invariant-loop-link l = links_extent l.extents l.all (drop l.link-index l.links) ≡ links_extent l.extents empty l.links
