use Rattle.std.proofs.Common.{◌≡◌, drop, []}
use Rattle.schema_rules.specs.CompositeRules.{types_check}
use Rattle.type_check.proofs.declared.judge_types.Given as goal

abbrev pub invariant-loop-item : goal.invariant-loop-item
invariant-loop-item l = types_check l.known l.names (drop l.item-index l.item-items) ≡ types_check l.known [] l.item-items
