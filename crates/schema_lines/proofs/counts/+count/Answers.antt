use Rattle.std.proofs.Common.{◌+◌, length, ap, arith, ◌∙◌, sym}
use Rattle.std.specs.Prelude.{sum_by}
use Rattle.schema_lines.specs.Counts.{groups_with, parts_with}
use Rattle.schema_lines.proofs.Growing.{groups_open, parts_open, groups_more, parts_more}
use Rattle.schema_lines.proofs.counts.+count.Goals as goal

pub count_groups-loop-group-preserved : goal.count_groups-loop-group-preserved
count_groups-loop-group-preserved t c = record {
  groups = groups_more c.args.groups.now c.loop-group.group-index c.group-item.result (omega arith) c.group-item.is _ _ _ c.loop-group.invariant.groups c.in-Some.ensures.0 c.in-Some-one_more.ensures.0;
  parts = parts_more c.args.groups.now c.loop-group.group-index c.group-item.result (omega arith) c.group-item.is _ _ _ c.loop-group.invariant.parts c.in-Some.ensures.1 c.in-Some-one_more.ensures.1;
}

pub count_level-returns : goal.count_level-returns
count_level-returns t c =
    let groups = c.in-Some.ensures.0 ∙ ap (sum_by groups_with) c.as_slice.ensures in
    let below = c.in-Some.ensures.1 ∙ ap (sum_by parts_with) c.as_slice.ensures in
    (groups ∙ sym (groups_open c.args.level.now), omega (arith, below, parts_open c.args.level.now, c.in-Some-checked_add.ensures, c.len.ensures))
