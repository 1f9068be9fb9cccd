use Rattle.std.proofs.Common.{◌≡◌, take}
use Rattle.sbe_types.proofs.+block_same.Given as goal

abbrev pub invariant-message_same::are_same_groups-loop-i : goal.invariant-message_same::are_same_groups-loop-i
invariant-message_same::are_same_groups-loop-i l = take l.i l.a ≡ take l.i l.b

abbrev pub invariant-message_same::are_same_entries-loop-i : goal.invariant-message_same::are_same_entries-loop-i
invariant-message_same::are_same_entries-loop-i l = take l.i l.a ≡ take l.i l.b
