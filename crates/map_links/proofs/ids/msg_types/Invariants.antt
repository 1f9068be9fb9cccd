use Rattle.std.proofs.Common.{◌≡◌, map, take}
use Rattle.map_members.specs.Lent.{lent_members}
use Rattle.map_links.proofs.ids.msg_types.Given as goal

abbrev pub invariant-loop-message : goal.invariant-loop-message
invariant-loop-message l = l.types ≡ map (λ x. x.msg_type) (lent_members (take l.message-index l.messages))
