use Rattle.std.proofs.Common.{◌≡◌, map, take}
use Rattle.map_members.specs.Lent.{lent_members}
use Rattle.map_links.proofs.ids.component_ids.Given as goal

abbrev pub invariant-loop-component : goal.invariant-loop-component
invariant-loop-component l = l.ids ≡ map (λ x. x.id) (lent_members (take l.component-index l.components))
