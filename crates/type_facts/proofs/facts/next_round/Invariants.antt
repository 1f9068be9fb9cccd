use Rattle.std.proofs.Common.{◌≡◌, take, map}
use Rattle.schema_rules.specs.Facts.{item_fact}
use Rattle.type_facts.specs.Tables.{table_fact}
use Rattle.type_facts.proofs.facts.next_round.Given as goal

abbrev pub invariant-loop-item : goal.invariant-loop-item
invariant-loop-item l = l.next ≡ map (item_fact l.types (table_fact l.types l.table)) (take l.item-index l.item-items)
