use Rattle.std.proofs.Common.{◌≡◌, ◌++◌, drop}
use Rattle.map_members.specs.Lent.{lent_members}
use Rattle.orchestra_map.specs.Headers.{header_places, header_links}
use Rattle.orchestra_map.proofs.headers.header_links.Given as goal

abbrev pub invariant-loop-i : goal.invariant-loop-i
invariant-loop-i l = l.links ++ header_places l.i (lent_members (drop l.i l.components)) ≡ header_links (lent_members l.components)
