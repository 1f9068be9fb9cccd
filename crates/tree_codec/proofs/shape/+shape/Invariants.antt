use Rattle.std.proofs.Common.{◌≡◌, ◌+◌, ◌*◌, drop, length}
use Rattle.sbe_types.specs.declared.message.Block.{out-Block}
use Rattle.sbe_types.specs.declared.schema.Level.{out-Level}
use Rattle.sbe_wire.specs.Misfit.{block_shape, each_misfit}
use Rattle.schema_facts.specs.CheckedLevels.{groups_deep}
use Rattle.tree_codec.specs.Shapes.{groups_unfit}
use Rattle.tree_codec.proofs.shape.+shape.Given as goal

abbrev pub invariant-shape_groups-loop-i : goal.invariant-shape_groups-loop-i
invariant-shape_groups-loop-i l =
    groups_unfit (l.first + l.i) (drop l.i (out-Level l.level).groups) (drop l.i (out-Block l.block).groups)
    ≡ groups_unfit (length (out-Level l.level).fields) (out-Level l.level).groups (out-Block l.block).groups

abbrev pub invariant-shape_entries-loop-i : goal.invariant-shape_entries-loop-i
invariant-shape_entries-loop-i l =
    each_misfit (λ entry. block_shape l.level entry) l.i (drop l.i l.entries) ≡ each_misfit (λ entry. block_shape l.level entry) 0 l.entries

abbrev pub decreases-shape_block : goal.decreases-shape_block
decreases-shape_block l = 4 * groups_deep l.level.now + 3

abbrev pub decreases-shape_groups : goal.decreases-shape_groups
decreases-shape_groups l = 4 * groups_deep l.level.now + 2

abbrev pub decreases-shape_group : goal.decreases-shape_group
decreases-shape_group l = 4 * groups_deep l.level.now + 5

abbrev pub decreases-shape_entries : goal.decreases-shape_entries
decreases-shape_entries l = 4 * groups_deep l.level.now + 4
