use Rattle.std.proofs.Common.{◌≡◌, take}
use Rattle.sbe_types.proofs.copy.copied_names.Given as goal

abbrev pub invariant-loop-named : goal.invariant-loop-named
invariant-loop-named l = l.out ≡ take l.named-index l.named-items
