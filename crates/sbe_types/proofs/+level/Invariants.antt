use Rattle.std.proofs.Common.{◌≡◌, take}
use Rattle.sbe_types.proofs.+level.Given as goal

abbrev pub invariant-copy::copied_groups-loop-group : goal.invariant-copy::copied_groups-loop-group
invariant-copy::copied_groups-loop-group l = l.out ≡ take l.group-index l.group-items
