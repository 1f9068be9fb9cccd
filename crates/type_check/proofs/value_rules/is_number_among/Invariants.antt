use Rattle.std.proofs.Common.{◌≡◌, drop}
use Rattle.std.specs.Ordering.{int_eq}
use Rattle.std.specs.List.{list_any}
use Rattle.type_check.proofs.value_rules.is_number_among.Given as goal

abbrev pub invariant-loop-number : goal.invariant-loop-number
invariant-loop-number l = list_any (int_eq l.value.number) (drop l.number-index l.numbers) ≡ list_any (int_eq l.value.number) l.numbers
