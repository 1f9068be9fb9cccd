use Rattle.std.proofs.Common.{◌≡◌, take, map, Some}
use Rattle.schema_rules.specs.Chains.{item_goes_on}
use Rattle.type_facts.specs.Tables.{table_chain}
use Rattle.type_facts.proofs.chains.next_round.Given as goal

abbrev pub invariant-loop-item : goal.invariant-loop-item
invariant-loop-item l = l.next ≡ map (λ t. item_goes_on (table_chain l.types l.table) (Some t)) (take l.item-index l.item-items)
