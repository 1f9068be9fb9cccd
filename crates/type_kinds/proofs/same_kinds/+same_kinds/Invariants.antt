use Rattle.std.proofs.Common.{◌≡◌, take}
use Rattle.type_kinds.proofs.same_kinds.+same_kinds.Given as goal

abbrev pub invariant-are_equal-loop-i : goal.invariant-are_equal-loop-i
invariant-are_equal-loop-i l = take l.i l.a ≡ take l.i l.b
