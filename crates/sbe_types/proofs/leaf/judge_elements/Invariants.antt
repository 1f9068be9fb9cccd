use Rattle.std.proofs.Common.{◌≡◌, ◌-◌, ◌*◌, length}
use Rattle.sbe_types.specs.LeafBad.{elements_bad}
use Rattle.sbe_types.specs.Numbers.{prim_width}
use Rattle.sbe_types.proofs.leaf.judge_elements.Given as goal

abbrev pub invariant-loop-at : goal.invariant-loop-at
invariant-loop-at l =
    record {
      long : length l.rest ≡ prim_width l.leaf.prim * (l.leaf.length - l.at);
      rest : elements_bad l.order l.leaf l.at (l.leaf.length - l.at) l.rest ≡ elements_bad l.order l.leaf 0 l.leaf.length l.bytes;
    }
