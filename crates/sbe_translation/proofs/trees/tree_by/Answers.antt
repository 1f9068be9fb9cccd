use Rattle.bridge_plan.specs.Covers.{plan_of}
use Rattle.field_blocks.proofs.Rows.{some_held}
use Rattle.sbe_translation.proofs.Numbering.{level_without_zero}
use Rattle.sbe_translation.proofs.trees.tree_by.Goals as goal

pub returns : goal.returns
returns c = λ m s tables places mapped covered.
    let tree = c.in-Some.tree in
    let made = some_held c.in_ok-tree.field-0 _ tree c.in-Some.is c.in_ok-tree.ensures in
    let is = made m s tables places in
    let none = c.has_no_zero.ensures c.if-not-has_no_zero.false in
    record {
      structure = s;
      mapped = mapped;
      covered = covered;
      rows = is;
      numbered = level_without_zero tree.levels.items (plan_of m s c.args.level.now) tree.root is none.0 none.1;
    }
