use Rattle.std.proofs.Common.{◌≡◌, map, take}
use Rattle.schema_rules.specs.Kinds.{valid_value}
use Rattle.type_facts.proofs.value_lists.valid_values.Given as goal

abbrev pub invariant-loop-value : goal.invariant-loop-value
invariant-loop-value l = l.named ≡ map (valid_value l.prim) (take l.value-index l.values)
