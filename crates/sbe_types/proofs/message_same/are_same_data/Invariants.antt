use Rattle.std.proofs.Common.{◌≡◌, take}
use Rattle.sbe_types.proofs.message_same.are_same_data.Given as goal

abbrev pub invariant-loop-i : goal.invariant-loop-i
invariant-loop-i l = take l.i l.a ≡ take l.i l.b
