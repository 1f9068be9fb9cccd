use Rattle.std.proofs.Common.{◌≡◌, take}
use Rattle.sbe_types.proofs.message_copy.copied_data.Given as goal

abbrev pub invariant-loop-part : goal.invariant-loop-part
invariant-loop-part l = l.out ≡ take l.part-index l.part-items
