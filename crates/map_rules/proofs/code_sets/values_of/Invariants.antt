use Rattle.std.proofs.Common.{◌≡◌, map, take}
use Rattle.map_rules.proofs.code_sets.values_of.Given as goal

abbrev pub invariant-loop-code : goal.invariant-loop-code
invariant-loop-code l = l.values ≡ map (λ c. c.value) (take l.code-index l.members)
