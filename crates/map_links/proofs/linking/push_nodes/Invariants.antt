use Rattle.std.proofs.Common.{◌≡◌, ◌++◌, map, take}
use Rattle.map_members.specs.Lent.{lent_members}
use Rattle.map_links.proofs.linking.push_nodes.Given as goal

abbrev pub invariant-loop-member : goal.invariant-loop-member
invariant-loop-member g l = l.nodes ≡ l.fn.nodes ++ map (g.M.Linking.node l.fn.count l.ids) (lent_members (take l.member-index l.members))
