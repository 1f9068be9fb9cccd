use Rattle.std.proofs.Common.{◌≡◌, drop, []}
use Rattle.schema_rules.specs.TypeRules.{has_name_twice}
use Rattle.type_check.proofs.value_rules.has_name_twice.Given as goal

abbrev pub invariant-loop-value : goal.invariant-loop-value
invariant-loop-value l = has_name_twice l.names (drop l.value-index l.values) ≡ has_name_twice [] l.values
