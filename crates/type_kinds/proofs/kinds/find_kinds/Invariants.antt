use Rattle.std.proofs.Common.{◌≡◌, map, take}
use Rattle.sbe_types.specs.declared.tree.TypesItem.{TypesItem}
use Rattle.schema_rules.specs.Kinds.{unresolved}
use Rattle.type_kinds.specs.Tables.{kind_round}
use Rattle.type_kinds.proofs.kinds.find_kinds.Given as goal

abbrev pub invariant-blank : goal.invariant-blank
invariant-blank l = l.table ≡ map (λ (t : TypesItem). unresolved) (take l.index l.items)

abbrev pub invariant-rounds : goal.invariant-rounds
invariant-rounds l = l.table ≡ kind_round l.done l.types
