use Rattle.vectors.specs.Messages.{block_drawn, group_drawn}
use Rattle.vectors.proofs.Gathering.{each_go, each_end, times_go, times_end}
use Rattle.vectors.proofs.BlockParts.{block_is, group_is}
use Rattle.vectors.proofs.blocks.+block.Goals as goal

pub draw_groups-loop-group-preserved : goal.draw_groups-loop-group-preserved
draw_groups-loop-group-preserved t c =
    rw c.in_ok-push.ensures.ok (each_go group_drawn c.args.groups.now _ c.loop-group.group-index c.group-item.result _ _ _ _ _ c.as_slice-group-items.ensures c.loop-group-test.true c.group-item.is
    (group_is c.group-item.result _ _ _ _ _ c.draw_count-count.ensures c.in_ok-entries.ensures) c.loop-group.invariant)

pub draw_groups-returns : goal.draw_groups-returns
draw_groups-returns t c = each_end group_drawn c.args.groups.now _ c.loop-group.group-index _ _ _ c.as_slice-group-items.ensures c.loop-group-test.false c.loop-group.invariant

pub draw_entries-loop-preserved : goal.draw_entries-loop-preserved
draw_entries-loop-preserved t c = rw c.in_ok-push.ensures.ok (times_go (block_drawn c.args.level.now) c.args.count c.loop.counter _ _ _ _ _ c.loop-test.true c.in_ok-draw_block.ensures c.loop.invariant)

pub draw_entries-returns : goal.draw_entries-returns
draw_entries-returns t c = times_end (block_drawn c.args.level.now) c.args.count c.loop.counter _ _ _ c.loop-test.false c.loop.invariant

pub draw_block-returns : goal.draw_block-returns
draw_block-returns t c = block_is c.args.level.now c.args.words.now _ _ _ _ _ _ c.in_ok-fields.ensures c.in_ok-groups.ensures c.in_ok-parts.ensures
