use Rattle.std.proofs.Common.{◌≡◌, ◌++◌, take, flat_map}
use Rattle.map_members.specs.Lent.{lent_members}
use Rattle.map_members.proofs.gather.members_in.Given as goal

abbrev pub invariant-loop-member : goal.invariant-loop-member
invariant-loop-member g l = lent_members l.all.items ≡ flat_map g.M.Member.listed (take l.item-index l.items) ++ take l.member-index l.member-items

abbrev pub invariant-loop-item : goal.invariant-loop-item
invariant-loop-item g l = lent_members l.all.items ≡ flat_map g.M.Member.listed (take l.item-index l.items)
