use Rattle.std.proofs.Common.{◌≡◌, map, take}
use Rattle.map_rules.proofs.code_sets.names_of.Given as goal

abbrev pub invariant-loop-code : goal.invariant-loop-code
invariant-loop-code l = l.names ≡ map (λ c. c.name) (take l.code-index l.members)
