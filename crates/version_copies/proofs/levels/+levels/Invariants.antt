use Rattle.std.proofs.Common.{◌≡◌, take}
use Rattle.version_copies.proofs.levels.+levels.Given as goal

abbrev pub invariant-are_same_groups-loop-i : goal.invariant-are_same_groups-loop-i
invariant-are_same_groups-loop-i l = take l.i l.a ≡ take l.i l.b
