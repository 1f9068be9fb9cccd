use Rattle.std.proofs.Common.{◌≡◌, ◌+◌, drop, sym, ap, ◌∙◌, arith}
use Rattle.sbe_types.specs.declared.message.Block.{Block, out-Block}
use Rattle.sbe_types.specs.declared.schema.Level.{out-Level}
use Rattle.regrade_laws.specs.Counts.{dropped_count}
use Rattle.body_walk.proofs.LevelsReady.{group_shallow}
use Rattle.version_project.proofs.Items.{drop_at}
use Rattle.version_project.proofs.OldParts.{old_has_group, old_lacks_group}
use Rattle.regrade.specs.Each.{dropped_here}
use Rattle.regrade.proofs.DropWalk.{sum_step, sum_over, total_step}
use Rattle.regrade.proofs.Rows.{dropped_is, absent_drops_none, kept_drops, lost_drops}
use Rattle.regrade.proofs.dropping.+drop_parts.Goals as goal

-- ---- a group

pub dropped_group-dropped_entries-requires : goal.dropped_group-dropped_entries-requires
dropped_group-dropped_entries-requires t c =
    let old = old_has_group c.args.version c.args.group.now c.if-group-version.true in
    let is = kept_drops c.args.version c.args.group.now c.args.value.now c.in-Entries.entries c.in-Entries.is old in
    (omega (arith, c.decreases), omega (arith, is, c.requires))

pub dropped_group-returns-in-Absent : goal.dropped_group-returns-in-Absent
dropped_group-returns-in-Absent t c = sym (absent_drops_none c.args.version c.args.group.now c.args.value.now c.in-Absent.is)

pub dropped_group-returns-then-group-version : goal.dropped_group-returns-then-group-version
dropped_group-returns-then-group-version t c =
    let old = old_has_group c.args.version c.args.group.now c.if-group-version.true in
    c.dropped_entries.ensures ∙ sym (kept_drops c.args.version c.args.group.now c.args.value.now c.in-Entries.entries c.in-Entries.is old)

-- ---- groups

pub dropped_groups-dropped_group-dropped-requires : goal.dropped_groups-dropped_group-dropped-requires
dropped_groups-dropped_group-dropped-requires t c =
    let i = c.loop-i.i in
    let groups = (out-Level c.args.level.now).groups in
    let here = drop_at groups i c.at.result.now c.at.ensures in
    let step = sum_step (dropped_here c.args.version) (drop i groups) (drop (i + 1) groups) c.at.result.now (out-Block c.args.block.now).groups i c.at-in-loop-i.result.now here c.at-in-loop-i.ensures in
    let shallow = group_shallow c.args.level.now i c.at.result.now c.at.ensures in
    (omega (arith, shallow, c.decreases), omega (arith, step, c.loop-i.invariant, c.requires))

pub dropped_groups-overflow_add-dropped : goal.dropped_groups-overflow_add-dropped
dropped_groups-overflow_add-dropped t c =
    let i = c.loop-i.i in
    let groups = (out-Level c.args.level.now).groups in
    let here = drop_at groups i c.at.result.now c.at.ensures in
    let step = sum_step (dropped_here c.args.version) (drop i groups) (drop (i + 1) groups) c.at.result.now (out-Block c.args.block.now).groups i c.at-in-loop-i.result.now here c.at-in-loop-i.ensures in
    omega (arith, step, c.dropped_group-dropped.ensures, c.loop-i.invariant, c.requires)

pub dropped_groups-loop-i-preserved : goal.dropped_groups-loop-i-preserved
dropped_groups-loop-i-preserved t c =
    let i = c.loop-i.i in
    let groups = (out-Level c.args.level.now).groups in
    let here = drop_at groups i c.at.result.now c.at.ensures in
    let step = sum_step (dropped_here c.args.version) (drop i groups) (drop (i + 1) groups) c.at.result.now (out-Block c.args.block.now).groups i c.at-in-loop-i.result.now here c.at-in-loop-i.ensures in
    omega (arith, step, c.dropped_group-dropped.ensures, c.loop-i.invariant)

-- ---- entries

pub dropped_entries-dropped_in-dropped-requires : goal.dropped_entries-dropped_in-dropped-requires
dropped_entries-dropped_in-dropped-requires t c =
    let i = c.loop-i.i in
    let here = drop_at c.args.entries.now i c.at.result.now c.at.ensures in
    let step = total_step (dropped_count c.args.version c.args.level.now) (drop i c.args.entries.now) (drop (i + 1) c.args.entries.now) c.at.result.now here in
    (omega (arith, c.decreases), omega (arith, step, c.loop-i.invariant, c.requires))

pub dropped_entries-overflow_add-dropped : goal.dropped_entries-overflow_add-dropped
dropped_entries-overflow_add-dropped t c =
    let i = c.loop-i.i in
    let here = drop_at c.args.entries.now i c.at.result.now c.at.ensures in
    let step = total_step (dropped_count c.args.version c.args.level.now) (drop i c.args.entries.now) (drop (i + 1) c.args.entries.now) c.at.result.now here in
    omega (arith, step, c.dropped_in-dropped.ensures, c.loop-i.invariant, c.requires)

pub dropped_entries-loop-i-preserved : goal.dropped_entries-loop-i-preserved
dropped_entries-loop-i-preserved t c =
    let i = c.loop-i.i in
    let here = drop_at c.args.entries.now i c.at.result.now c.at.ensures in
    let step = total_step (dropped_count c.args.version c.args.level.now) (drop i c.args.entries.now) (drop (i + 1) c.args.entries.now) c.at.result.now here in
    omega (arith, step, c.dropped_in-dropped.ensures, c.loop-i.invariant)

-- ---- a block

pub dropped_in-dropped_fields-fields-requires : goal.dropped_in-dropped_fields-fields-requires
dropped_in-dropped_fields-fields-requires t c = omega (arith, dropped_is c.args.version c.args.level.now c.args.block.now, c.requires)

pub dropped_in-dropped_groups-groups-requires : goal.dropped_in-dropped_groups-groups-requires
dropped_in-dropped_groups-groups-requires t c = (omega (arith, c.decreases), omega (arith, dropped_is c.args.version c.args.level.now c.args.block.now, c.requires))

pub dropped_in-dropped_parts-parts-requires : goal.dropped_in-dropped_parts-parts-requires
dropped_in-dropped_parts-parts-requires t c = omega (arith, dropped_is c.args.version c.args.level.now c.args.block.now, c.requires)

pub dropped_in-overflow_add-result : goal.dropped_in-overflow_add-result
dropped_in-overflow_add-result t c =
    omega (arith, dropped_is c.args.version c.args.level.now c.args.block.now, c.requires, c.dropped_fields-fields.ensures, c.dropped_groups-groups.ensures)

pub dropped_in-overflow_add-result-2 : goal.dropped_in-overflow_add-result-2
dropped_in-overflow_add-result-2 t c =
    omega (arith, dropped_is c.args.version c.args.level.now c.args.block.now, c.requires, c.dropped_fields-fields.ensures, c.dropped_groups-groups.ensures, c.dropped_parts-parts.ensures)

pub dropped_in-returns : goal.dropped_in-returns
dropped_in-returns t c =
    omega (arith, dropped_is c.args.version c.args.level.now c.args.block.now, c.dropped_fields-fields.ensures, c.dropped_groups-groups.ensures, c.dropped_parts-parts.ensures)

pub dropped_groups-returns-then-i-len : goal.dropped_groups-returns-then-i-len
dropped_groups-returns-then-i-len t c =
    let none = sum_over (dropped_here c.args.version) (drop c.loop-i.i (out-Level c.args.level.now).groups) (out-Block c.args.block.now).groups c.loop-i.i (omega (arith, c.if-i-len.true, c.len.ensures)) in
    omega (arith, none, c.loop-i.invariant)
