use Rattle.std.proofs.Common.{◌≡◌, drop}
use Rattle.std.specs.Prelude.{is_none}
use Rattle.std.specs.List.{list_any}
use Rattle.schema_rules.specs.Ranges.{value_number}
use Rattle.type_check.proofs.value_rules.is_any_unread.Given as goal

abbrev pub invariant-loop-value : goal.invariant-loop-value
invariant-loop-value l = list_any (λ v. is_none (value_number l.prim v.text)) (drop l.value-index l.values) ≡ list_any (λ v. is_none (value_number l.prim v.text)) l.values
