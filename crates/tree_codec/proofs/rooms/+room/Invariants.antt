use Rattle.std.proofs.Common.{◌≡◌, ◌≤◌, ◌+◌, ◌*◌, drop, length}
use Rattle.sbe_types.specs.declared.message.Block.{out-Block}
use Rattle.sbe_types.specs.declared.schema.Group.{out-Group}
use Rattle.sbe_types.specs.declared.schema.Level.{out-Level}
use Rattle.sbe_wire.specs.Misfit.{each_taken}
use Rattle.schema_facts.specs.CheckedLevels.{groups_deep}
use Rattle.layout_tables.proofs.GroupWalk.{GroupsFrom}
use Rattle.tree_codec.specs.Rooms.{groups_room, entry_room}
use Rattle.tree_codec.proofs.rooms.+room.Given as goal

abbrev pub invariant-take_groups-loop-i : goal.invariant-take_groups-loop-i
invariant-take_groups-loop-i l =
    record {
      near : l.at ≤ l.walk.limit;
      from : GroupsFrom l.walk.layout.now l.n l.i l.child;
      told : groups_room l.walk.limit (l.first + l.i) l.at (drop l.i (out-Level l.level).groups) (drop l.i (out-Block l.block).groups)
          ≡ groups_room l.walk.limit (length (out-Level l.level).fields) l.fn.before (out-Level l.level).groups (out-Block l.block).groups;
    }

abbrev pub invariant-take_entries-loop-i : goal.invariant-take_entries-loop-i
invariant-take_entries-loop-i l =
    record {
      near : l.at ≤ l.walk.limit;
      told : each_taken (λ at entry. entry_room l.walk.limit l.level at entry) l.i l.at (drop l.i l.entries) ≡ each_taken (λ at entry. entry_room l.walk.limit l.level at entry) 0 l.fn.before l.entries;
    }

abbrev pub decreases-take_entry : goal.decreases-take_entry
decreases-take_entry l = 5 * groups_deep l.level.now + 3

abbrev pub decreases-take_tail : goal.decreases-take_tail
decreases-take_tail l = 5 * groups_deep l.level.now + 2

abbrev pub decreases-take_groups : goal.decreases-take_groups
decreases-take_groups l = 5 * groups_deep l.level.now + 1

abbrev pub decreases-take_group : goal.decreases-take_group
decreases-take_group l = 5 * groups_deep (out-Group l.group.now).level + 5

abbrev pub decreases-take_entries : goal.decreases-take_entries
decreases-take_entries l = 5 * groups_deep l.level.now + 4
