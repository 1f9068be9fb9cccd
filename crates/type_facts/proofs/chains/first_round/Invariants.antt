use Rattle.std.proofs.Common.{◌≡◌, take, map, Some}
use Rattle.schema_rules.specs.Chains.{is_composite}
use Rattle.type_facts.proofs.chains.first_round.Given as goal

abbrev pub invariant-loop-item : goal.invariant-loop-item
invariant-loop-item l = l.table ≡ map (λ t. is_composite (Some t)) (take l.item-index l.item-items)
