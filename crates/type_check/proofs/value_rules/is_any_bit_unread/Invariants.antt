use Rattle.std.proofs.Common.{◌≡◌, drop}
use Rattle.std.specs.Prelude.{is_none}
use Rattle.std.specs.List.{list_any}
use Rattle.sbe_types.specs.Numbers.{prim_width}
use Rattle.schema_rules.specs.Ranges.{bit_number}
use Rattle.type_check.proofs.value_rules.is_any_bit_unread.Given as goal

abbrev pub invariant-loop-choice : goal.invariant-loop-choice
invariant-loop-choice l = list_any (λ v. is_none (bit_number (prim_width l.prim) v.text)) (drop l.choice-index l.choices) ≡ list_any (λ v. is_none (bit_number (prim_width l.prim) v.text)) l.choices
