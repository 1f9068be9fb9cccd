use Rattle.std.proofs.Common.{◌≡◌, ◌*◌, ◌++◌, length}
use Rattle.sbe_types.specs.Numbers.{prim_width}
use Rattle.tree_codec.specs.TheValues.{elements_from}
use Rattle.tree_codec.proofs.values.elements_of.Given as goal

abbrev pub invariant-loop-left : goal.invariant-loop-left
invariant-loop-left l =
    record {
      long : length l.rest ≡ prim_width l.leaf.prim * l.left;
      gathered : l.elements ++ elements_from l.order l.leaf l.left l.rest ≡ elements_from l.order l.leaf l.leaf.length l.bytes;
    }

abbrev pub decreases-loop-left : goal.decreases-loop-left
decreases-loop-left l = l.left
