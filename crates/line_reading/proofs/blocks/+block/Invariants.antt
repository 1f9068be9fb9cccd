use Rattle.std.proofs.Common.{◌≡◌, drop}
use Rattle.json_data.specs.Trees.{items_of}
use Rattle.line_values.specs.Objects.{each}
use Rattle.line_reading.specs.Lines.{entry_in, block_read}
use Rattle.line_values.specs.Code.{object_members}
use Rattle.line_reading.specs.Code.{group_list_read}
use Rattle.line_values.proofs.ListSteps.{with_front}
use Rattle.line_reading.proofs.blocks.+block.Given as goal

abbrev pub invariant-read_groups-loop-group : goal.invariant-read_groups-loop-group
invariant-read_groups-loop-group l = with_front l.out (group_list_read (drop l.group-index l.groups) (object_members l.object)) ≡ group_list_read l.groups (object_members l.object)

abbrev pub invariant-read_items-loop-i : goal.invariant-read_items-loop-i
invariant-read_items-loop-i l = with_front l.out (each (entry_in (block_read l.level)) l.i (items_of (drop l.i l.items))) ≡ each (entry_in (block_read l.level)) 0 (items_of l.items)
