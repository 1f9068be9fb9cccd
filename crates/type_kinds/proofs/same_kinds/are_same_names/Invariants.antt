use Rattle.std.proofs.Common.{◌≡◌, take}
use Rattle.type_kinds.proofs.same_kinds.are_same_names.Given as goal

abbrev pub invariant-loop-i : goal.invariant-loop-i
invariant-loop-i l = take l.i l.a ≡ take l.i l.b
