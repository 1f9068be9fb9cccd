use Rattle.std.proofs.Common.{◌≡◌, take}
use Rattle.sbe_types.proofs.+block_copy.Given as goal

abbrev pub invariant-message_copy::copied_groups-loop-group : goal.invariant-message_copy::copied_groups-loop-group
invariant-message_copy::copied_groups-loop-group l = l.out ≡ take l.group-index l.group-items

abbrev pub invariant-message_copy::copied_entries-loop-entry : goal.invariant-message_copy::copied_entries-loop-entry
invariant-message_copy::copied_entries-loop-entry l = l.out ≡ take l.entry-index l.entry-items
