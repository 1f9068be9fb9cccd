use Rattle.std.proofs.Common.{◌≡◌, take}
use Rattle.sbe_types.proofs.+value_same.Given as goal

abbrev pub invariant-message_same::are_same_values-loop-i : goal.invariant-message_same::are_same_values-loop-i
invariant-message_same::are_same_values-loop-i l = take l.i l.a ≡ take l.i l.b
