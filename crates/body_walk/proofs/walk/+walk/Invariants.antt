use Rattle.std.proofs.Common.{◌≡◌, ◌≤◌, ◌+◌, ◌-◌, ◌*◌, length, drop}
use Rattle.schema_facts.specs.Levels.{all_nodes}
use Rattle.sbe_types.specs.declared.schema.Level.{out-Level}
use Rattle.layout_tables.proofs.GroupWalk.{GroupsFrom}
use Rattle.body_walk.specs.inner.Cursor.{skim, entries_read, groups_end, steps_end}
use Rattle.body_walk.proofs.walk.+walk.Given as goal

abbrev pub invariant-walk_groups-loop-i : goal.invariant-walk_groups-loop-i
invariant-walk_groups-loop-i l =
    let groups = (out-Level l.level).groups in
    record {
      near : l.at ≤ length l.body;
      same : l.groups ≡ groups;
      from : GroupsFrom l.layout l.n l.i l.child;
      told : groups_end l.mode (l.first + l.i) (drop l.i groups) l.body l.at ≡ groups_end l.mode (length (out-Level l.level).fields) groups l.body l.fn.at;
    }

abbrev pub invariant-walk_entries-loop-i : goal.invariant-walk_entries-loop-i
invariant-walk_entries-loop-i l =
    let step = skim (entries_read l.mode l.level l.dim.block) l.body in
    record {
      near : l.at ≤ length l.body;
      told : steps_end step l.i (l.dim.count - l.i) l.at ≡ steps_end step 0 l.dim.count l.dim.after;
    }

abbrev pub decreases-walk_entry : goal.decreases-walk_entry
decreases-walk_entry l = 5 * (length (all_nodes l.layout.now) - l.n) + 2

abbrev pub decreases-walk_tail : goal.decreases-walk_tail
decreases-walk_tail l = 5 * (length (all_nodes l.layout.now) - l.n) + 1

abbrev pub decreases-walk_groups : goal.decreases-walk_groups
decreases-walk_groups l = 5 * (length (all_nodes l.layout.now) - l.n)

abbrev pub decreases-walk_group : goal.decreases-walk_group
decreases-walk_group l = 5 * (length (all_nodes l.layout.now) - l.n) + 4

abbrev pub decreases-walk_entries : goal.decreases-walk_entries
decreases-walk_entries l = 5 * (length (all_nodes l.layout.now) - l.n) + 3
