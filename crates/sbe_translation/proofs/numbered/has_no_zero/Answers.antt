use Rattle.std.proofs.Common.{subst}
use Rattle.std.specs.List.{AllByRecursion}
use Rattle.sbe_translation.specs.Numbered.{HasNoZero}
use Rattle.sbe_translation.proofs.numbered.has_no_zero.Goals as goal

pub returns : goal.returns
returns c = λ h. (c.is_without_zero.ensures c.if-not-is_without_zero.false, subst (AllByRecursion HasNoZero) c.as_slice-levels.ensures.value (c.are_without_zero.ensures h))
