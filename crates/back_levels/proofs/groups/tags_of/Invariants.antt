use Rattle.std.proofs.Common.{◌≡◌, map, take}
use Rattle.back_levels.proofs.groups.tags_of.Given as goal

abbrev pub invariant-loop-place : goal.invariant-loop-place
invariant-loop-place l = l.tags ≡ map (λ place. place.tag) (take l.place-index l.places)
