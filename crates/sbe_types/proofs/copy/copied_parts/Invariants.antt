use Rattle.std.proofs.Common.{◌≡◌, take}
use Rattle.sbe_types.proofs.copy.copied_parts.Given as goal

abbrev pub invariant-loop-part : goal.invariant-loop-part
invariant-loop-part l = l.out ≡ take l.part-index l.part-items
