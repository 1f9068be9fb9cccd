use Rattle.std.proofs.Common.{◌≡◌, ◌≤◌, ◌+◌, ◌*◌, ◌++◌, length}
use Rattle.std.specs.Prelude.{map}
use Rattle.flyweight_view.specs.Deep.{deepest, deepest_in}
use Rattle.tree_codec.specs.Trees.{blocks_of, group_of, AllWhole, AreWholeGroups}
use Rattle.flyweight_view.proofs.Depth.{deepest_of, AreWithin}
use Rattle.tree_codec.proofs.blocks.+block.Given as goal

abbrev pub invariant-group_trees-loop-i : goal.invariant-group_trees-loop-i
invariant-group_trees-loop-i l =
    record {
      count : l.i + length l.groups ≡ length l.block.groups;
      within : AreWithin (deepest l.block.groups) l.groups;
      whole : AreWholeGroups l.groups;
      gathered : l.trees ++ map group_of l.groups ≡ map group_of l.initial.groups;
    }

abbrev pub invariant-entry_trees-loop-entry : goal.invariant-entry_trees-loop-entry
invariant-entry_trees-loop-entry l =
    record {
      low : deepest_in l.entry-iterator ≤ deepest_in l.fn.entries;
      whole : AllWhole l.entry-iterator;
      gathered : l.blocks ++ blocks_of l.entry-iterator ≡ blocks_of l.fn.entries;
    }

abbrev pub decreases-block_tree : goal.decreases-block_tree
decreases-block_tree l = 4 * deepest l.block.now.groups + 1

abbrev pub decreases-group_trees : goal.decreases-group_trees
decreases-group_trees l = 4 * deepest l.block.now.groups

abbrev pub decreases-entry_trees : goal.decreases-entry_trees
decreases-entry_trees l = 4 * deepest_in l.entries + 2

abbrev pub decreases-group_tree : goal.decreases-group_tree
decreases-group_tree l = 4 * deepest_of l.entries + 3
