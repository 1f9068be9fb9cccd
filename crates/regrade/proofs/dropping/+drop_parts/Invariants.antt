use Rattle.std.proofs.Common.{◌≡◌, ◌+◌, ◌*◌, drop}
use Rattle.sbe_types.specs.declared.message.Block.{out-Block}
use Rattle.sbe_types.specs.declared.schema.Group.{out-Group}
use Rattle.sbe_types.specs.declared.schema.Level.{out-Level}
use Rattle.schema_facts.specs.CheckedLevels.{groups_deep}
use Rattle.schema_facts.specs.Counted.{total}
use Rattle.regrade_laws.specs.Counts.{sum_pairs, dropped_count}
use Rattle.regrade.specs.Each.{dropped_here}
use Rattle.regrade.proofs.dropping.+drop_parts.Given as goal

abbrev pub invariant-dropped_groups-loop-i : goal.invariant-dropped_groups-loop-i
invariant-dropped_groups-loop-i l =
    l.dropped + sum_pairs (dropped_here l.version) (drop l.i (out-Level l.level).groups) (drop l.i (out-Block l.block).groups)
    ≡ sum_pairs (dropped_here l.version) (out-Level l.level).groups (out-Block l.block).groups

abbrev pub invariant-dropped_entries-loop-i : goal.invariant-dropped_entries-loop-i
invariant-dropped_entries-loop-i l = l.dropped + total (dropped_count l.version l.level) (drop l.i l.entries) ≡ total (dropped_count l.version l.level) l.entries

abbrev pub decreases-dropped_in : goal.decreases-dropped_in
decreases-dropped_in l = 4 * groups_deep l.level.now + 3

abbrev pub decreases-dropped_groups : goal.decreases-dropped_groups
decreases-dropped_groups l = 4 * groups_deep l.level.now + 2

abbrev pub decreases-dropped_group : goal.decreases-dropped_group
decreases-dropped_group l = 4 * groups_deep (out-Group l.group.now).level + 5

abbrev pub decreases-dropped_entries : goal.decreases-dropped_entries
decreases-dropped_entries l = 4 * groups_deep l.level.now + 4
