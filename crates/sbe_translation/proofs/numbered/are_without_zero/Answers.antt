use Rattle.sbe_translation.specs.Numbered.{HasNoZero}
use Rattle.sbe_translation.proofs.Numbering.{none_left, one_more}
use Rattle.sbe_translation.proofs.numbered.are_without_zero.Goals as goal

pub levels-init : goal.levels-init
levels-init c = λ all. all

pub levels-preserved : goal.levels-preserved
levels-preserved c = λ all.
    c.levels.invariant (one_more HasNoZero _ c.level-item.result c.levels.left.now c.in-len1-up.len_at_least c.level-item.is
    (c.is_without_zero.ensures c.if-not-is_without_zero.false) all)

pub returns : goal.returns
returns c = λ h. c.levels.invariant (none_left HasNoZero c.levels.left.now c.in_default.len_below)
