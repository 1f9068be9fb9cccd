use Rattle.std.proofs.Common.{◌≡◌, ◌≤◌, ◌+◌, ◌-◌, ◌*◌, length, drop}
use Rattle.schema_facts.specs.Levels.{all_nodes}
use Rattle.sbe_types.specs.declared.schema.Level.{out-Level}
use Rattle.layout_tables.proofs.GroupWalk.{GroupsFrom}
use Rattle.level_skip.specs.Passing.{entry_in}
use Rattle.level_skip.specs.Behind.{offset_after, steps_behind, groups_behind}
use Rattle.level_skip.proofs.skip.+skip.Given as goal

abbrev pub invariant-pass_groups-loop-i : goal.invariant-pass_groups-loop-i
invariant-pass_groups-loop-i l =
    let groups = (out-Level l.level).groups in
    record {
      near : l.at ≤ length l.bytes;
      same : l.groups ≡ groups;
      from : GroupsFrom l.layout l.n l.i l.child;
      told : groups_behind l.layout.order l.version (drop l.i groups) l.bytes l.at ≡ groups_behind l.layout.order l.version groups l.bytes l.fn.at;
    }

abbrev pub invariant-pass_entries-loop : goal.invariant-pass_entries-loop
invariant-pass_entries-loop l =
    let step = offset_after (entry_in l.layout.order l.version l.level l.dim.block) l.bytes in
    record {
      near : l.at ≤ length l.bytes;
      told : steps_behind step (l.dim.count - l.counter) l.at ≡ steps_behind step l.dim.count l.dim.after;
    }

abbrev pub decreases-pass_entry : goal.decreases-pass_entry
decreases-pass_entry l = 4 * (length (all_nodes l.layout.now) - l.n) + 1

abbrev pub decreases-pass_groups : goal.decreases-pass_groups
decreases-pass_groups l = 4 * (length (all_nodes l.layout.now) - l.n)

abbrev pub decreases-pass_group : goal.decreases-pass_group
decreases-pass_group l = 4 * (length (all_nodes l.layout.now) - l.n) + 3

abbrev pub decreases-pass_entries : goal.decreases-pass_entries
decreases-pass_entries l = 4 * (length (all_nodes l.layout.now) - l.n) + 2
