use Rattle.std.proofs.Common.{◌≡◌, ◌+◌, ◌++◌, length}
use Rattle.std.specs.Prelude.{map}
use Rattle.tree_codec.specs.Trees.{part_of}
use Rattle.tree_codec.proofs.blocks.part_trees.Given as goal

abbrev pub invariant-loop-i : goal.invariant-loop-i
invariant-loop-i l =
    record {
      count : l.i + length l.parts ≡ length l.block.parts;
      gathered : l.trees ++ map part_of l.parts ≡ map part_of l.initial.parts;
    }
