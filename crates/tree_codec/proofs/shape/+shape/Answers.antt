use Rattle.std.proofs.Common.{◌≡◌, ◌<◌, ◌+◌, ◌^◌, suc, Option, length, ap, sym, ◌∙◌, arith}
use Rattle.sbe_types.specs.declared.message.Block.{Block, out-Block}
use Rattle.sbe_types.specs.declared.schema.Level.{out-Level}
use Rattle.sbe_wire.specs.Misfit.{Misfit, block_shape}
use Rattle.schema_facts.specs.CheckedLevels.{HasFewParts}
use Rattle.body_walk.proofs.LevelsReady.{group_shallow}
use Rattle.tree_codec.proofs.LevelShapes.{here, below, group_refused, group_passed, entry_refused, entry_passed, few_entries}
use Rattle.tree_codec.proofs.shape.+shape.Goals as goal

-- ---- entries

pub shape_entries-returns-then-not-shape_block-clause-told : goal.shape_entries-returns-then-not-shape_block-clause-told
shape_entries-returns-then-not-shape_block-clause-told t c =
    let shape : Block → Option Misfit = λ entry. block_shape c.args.level.now entry in
    let entries = c.args.entries.now in
    let few : length entries < 2 ^ 32 = omega (arith, c.if-len.false, c.len.ensures) in
    entry_refused shape c.loop-i.i entries c.at.result.now c.at.ensures c.shape_block.new.out c.under.new.self c.if-not-shape_block.ensures.told c.under.ensures
    ∙ c.loop-i.invariant ∙ sym (few_entries shape entries few)

pub shape_entries-loop-i-preserved : goal.shape_entries-loop-i-preserved
shape_entries-loop-i-preserved t c =
    entry_passed (λ entry. block_shape c.args.level.now entry) c.loop-i.i c.args.entries.now c.at.result.now c.at.ensures c.if-not-shape_block.ensures.told ∙ c.loop-i.invariant

-- ---- groups

pub shape_groups-shape_group-requires : goal.shape_groups-shape_group-requires
shape_groups-shape_group-requires t c =
    let level = c.args.level.now in
    let g = c.at.result.now in
    let shallow = group_shallow level c.loop-i.i g c.at.ensures in
    (omega (arith, shallow, c.decreases), (below HasFewParts level c.loop-i.i g c.requires.few c.at.ensures, omega (arith, shallow, c.requires.shallow)))

pub shape_groups-overflow_add-first : goal.shape_groups-overflow_add-first
shape_groups-overflow_add-first t c = omega (arith, here HasFewParts c.args.level.now c.requires.few, c.loop-i-test.true, c.len-first.ensures, c.len-i-end.ensures)

pub shape_groups-overflow_cast-first : goal.shape_groups-overflow_cast-first
shape_groups-overflow_cast-first t c = omega (arith, here HasFewParts c.args.level.now c.requires.few, c.loop-i-test.true, c.len-first.ensures, c.len-i-end.ensures)

pub shape_groups-under-requires : goal.shape_groups-under-requires
shape_groups-under-requires t c =
    let shallow = group_shallow c.args.level.now c.loop-i.i c.at.result.now c.at.ensures in
    omega (arith, shallow, c.requires.shallow, c.if-not-shape_group.ensures.low)

pub shape_groups-returns-then-not-shape_group-clause-told : goal.shape_groups-returns-then-not-shape_group-clause-told
shape_groups-returns-then-not-shape_group-clause-told t c =
    group_refused (c.len-first.result + c.loop-i.i) c.loop-i.i (out-Level c.args.level.now).groups (out-Block c.args.block.now).groups c.at.result.now c.at-in-loop-i.result.now c.at.ensures c.at-in-loop-i.ensures
    c.shape_group.new.out c.under.new.self c.if-not-shape_group.ensures.told c.under.ensures
    ∙ c.loop-i.invariant

pub shape_groups-returns-then-not-shape_group-clause-low : goal.shape_groups-returns-then-not-shape_group-clause-low
shape_groups-returns-then-not-shape_group-clause-low t c = λ no.
    let shallow = group_shallow c.args.level.now c.loop-i.i c.at.result.now c.at.ensures in
    omega (arith, shallow, c.if-not-shape_group.ensures.low, ap (λ u. length u.path) c.under.ensures)

pub shape_groups-loop-i-preserved : goal.shape_groups-loop-i-preserved
shape_groups-loop-i-preserved t c =
    let on : c.len-first.result + (c.loop-i.i + 1) ≡ suc (c.len-first.result + c.loop-i.i) = omega arith in
    group_passed (c.len-first.result + c.loop-i.i) c.loop-i.i (out-Level c.args.level.now).groups (out-Block c.args.block.now).groups c.at.result.now c.at-in-loop-i.result.now c.at.ensures c.at-in-loop-i.ensures
    (c.len-first.result + (c.loop-i.i + 1)) on c.if-not-shape_group.ensures.told
    ∙ c.loop-i.invariant
