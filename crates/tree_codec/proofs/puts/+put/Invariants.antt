use Rattle.std.proofs.Common.{◌+◌, ◌*◌}
use Rattle.sbe_types.specs.declared.schema.Group.{out-Group}
use Rattle.schema_facts.specs.CheckedLevels.{groups_deep}
use Rattle.typed_writer.specs.States.{level_of}
use Rattle.tree_codec.proofs.PutGroups.{EntriesAt, GroupsAt}
use Rattle.tree_codec.proofs.puts.+put.Given as goal

abbrev pub invariant-put_groups-loop-i : goal.invariant-put_groups-loop-i
invariant-put_groups-loop-i l =
    GroupsAt l.layout (level_of l.fn.buf.frames) l.level l.block l.i l.fn.buf l.buf

abbrev pub invariant-put_entries-loop-i : goal.invariant-put_entries-loop-i
invariant-put_entries-loop-i l = EntriesAt l.layout (level_of l.fn.buf.frames) l.level l.entries l.i l.fn.buf l.buf

abbrev pub decreases-put_entry : goal.decreases-put_entry
decreases-put_entry l = 5 * groups_deep l.level.now + 3

abbrev pub decreases-put_tail : goal.decreases-put_tail
decreases-put_tail l = 5 * groups_deep l.level.now + 2

abbrev pub decreases-put_groups : goal.decreases-put_groups
decreases-put_groups l = 5 * groups_deep l.level.now + 1

abbrev pub decreases-put_group : goal.decreases-put_group
decreases-put_group l = 5 * groups_deep (out-Group l.group.now).level + 5

abbrev pub decreases-put_entries : goal.decreases-put_entries
decreases-put_entries l = 5 * groups_deep l.level.now + 4
