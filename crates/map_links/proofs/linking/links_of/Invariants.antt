use Rattle.std.proofs.Common.{◌≡◌, ◌++◌, drop, filter_map}
use Rattle.map_links.proofs.linking.links_of.Given as goal

abbrev pub invariant-loop-reference : goal.invariant-loop-reference
invariant-loop-reference g l =
    l.links ++ filter_map (g.R.Reference.link l.fn.count l.ids) (drop l.reference-index l.references) ≡ filter_map (g.R.Reference.link l.fn.count l.ids) l.references
