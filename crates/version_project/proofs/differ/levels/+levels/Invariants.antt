use Rattle.std.proofs.Common.{◌≡◌, drop, suc}
use Rattle.version_project.specs.Paired.{groups_compare}
use Rattle.version_project.proofs.LevelSizes.{level_size, groups_size, group_size}
use Rattle.version_project.proofs.differ.levels.+levels.Given as goal

abbrev pub invariant-groups_differ-loop-new : goal.invariant-groups_differ-loop-new
invariant-groups_differ-loop-new l =
    groups_compare l.version l.more (drop l.i l.olds) (drop l.new-index l.news) ≡ groups_compare l.version l.more l.olds l.news

abbrev pub decreases-level_differs : goal.decreases-level_differs
decreases-level_differs l = level_size l.old.now

abbrev pub decreases-groups_differ : goal.decreases-groups_differ
decreases-groups_differ l = suc (groups_size l.olds.now)

abbrev pub decreases-group_differs : goal.decreases-group_differs
decreases-group_differs l = group_size l.old.now
