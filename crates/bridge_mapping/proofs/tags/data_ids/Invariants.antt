use Rattle.std.proofs.Common.{◌≡◌, map, take}
use Rattle.bridge_mapping.proofs.tags.data_ids.Given as goal

abbrev pub invariant-loop-pair : goal.invariant-loop-pair
invariant-loop-pair l = l.tags ≡ map (λ p. p.tag) (take l.pair-index l.pairs)
