use Rattle.std.proofs.Common.{length}
use Rattle.std.specs.List.{AllByRecursion}
use Rattle.sbe_translation.specs.Numbered.{HasNoZero}
use Rattle.sbe_translation.proofs.numbered.are_without_zero.Given as goal

-- those that are left decide
abbrev pub invariant-levels : goal.invariant-levels
invariant-levels l = AllByRecursion HasNoZero l.left → AllByRecursion HasNoZero l.levels

abbrev pub decreases-levels : goal.decreases-levels
decreases-levels l = length l.left
