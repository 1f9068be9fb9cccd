use Rattle.std.proofs.Common.{◌≡◌, map, take}
use Rattle.sbe_types.specs.declared.tree.TypesItem.{TypesItem}
use Rattle.schema_rules.specs.Facts.{no_fact}
use Rattle.type_facts.specs.Tables.{fact_round}
use Rattle.type_facts.proofs.facts.find_facts.Given as goal

abbrev pub invariant-blank : goal.invariant-blank
invariant-blank l = l.table ≡ map (λ (t : TypesItem). no_fact) (take l.index l.items)

abbrev pub invariant-rounds : goal.invariant-rounds
invariant-rounds l = l.table ≡ fact_round l.done l.types
