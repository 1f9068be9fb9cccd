use Rattle.std.proofs.Common.{◌≡◌, drop, []}
use Rattle.schema_rules.specs.TypeRules.{has_number_twice}
use Rattle.type_check.proofs.value_rules.has_number_twice.Given as goal

abbrev pub invariant-loop-value : goal.invariant-loop-value
invariant-loop-value l = has_number_twice l.numbers (drop l.value-index l.values) ≡ has_number_twice [] l.values
