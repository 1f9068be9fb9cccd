use Rattle.std.proofs.Common.{◌≡◌, take}
use Rattle.sbe_types.proofs.+value_copy.Given as goal

abbrev pub invariant-message_copy::copied_values-loop-value : goal.invariant-message_copy::copied_values-loop-value
invariant-message_copy::copied_values-loop-value l = l.out ≡ take l.value-index l.value-items
