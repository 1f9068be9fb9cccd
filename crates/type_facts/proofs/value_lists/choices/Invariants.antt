use Rattle.std.proofs.Common.{◌≡◌, map, take}
use Rattle.schema_rules.specs.Kinds.{choice}
use Rattle.type_facts.proofs.value_lists.choices.Given as goal

abbrev pub invariant-loop-item : goal.invariant-loop-item
invariant-loop-item l = l.named ≡ map (choice l.prim) (take l.item-index l.choices)
