use Rattle.std.proofs.Common.{◌≡◌, drop}
use Rattle.reference_graph.specs.Marking.{links_word}
use Rattle.reference_graph.proofs.distinct.links_word.Given as goal

abbrev pub invariant-loop-link : goal.invariant-loop-link
invariant-loop-link l = links_word l.words l.first l.all (drop l.link-index l.links) ≡ links_word l.words l.first l.so_far l.links
