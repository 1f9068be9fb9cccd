use Rattle.std.proofs.Common.{◌≡◌, take}
use Rattle.sbe_types.proofs.copy.copied_levels.Given as goal

abbrev pub invariant-loop-level : goal.invariant-loop-level
invariant-loop-level l = l.out ≡ take l.level-index l.level-items
