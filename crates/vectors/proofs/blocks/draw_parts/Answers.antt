use Rattle.vectors.specs.Messages.{part_drawn}
use Rattle.vectors.proofs.Gathering.{each_go, each_end}
use Rattle.vectors.proofs.blocks.draw_parts.Goals as goal

pub loop-part-preserved : goal.loop-part-preserved
loop-part-preserved c =
    rw c.in_ok-push.ensures.ok (each_go part_drawn c.args.parts.now _ c.loop-part.part-index c.part-item.result _ _ _ _ _ c.as_slice-part-items.ensures c.loop-part-test.true c.part-item.is c.in_ok-draw_part.ensures c.loop-part.invariant)

pub returns : goal.returns
returns c = each_end part_drawn c.args.parts.now _ c.loop-part.part-index _ _ _ c.as_slice-part-items.ensures c.loop-part-test.false c.loop-part.invariant
