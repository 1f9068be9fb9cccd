use Rattle.std.proofs.Common.{◌≡◌, ◌+◌, ◌*◌, drop}
use Rattle.serde_json.specs.Data.{depth, items_depth}
use Rattle.json_data.specs.Trees.{data_of, items_of}
use Rattle.json_elements.specs.Elements.{each}
use Rattle.json_elements.proofs.Children.{with_front}
use Rattle.sbe_schema.specs.Messages.{part_of}
use Rattle.sbe_schema.proofs.message.+parts.Given as goal

abbrev pub decreases-read_group : goal.decreases-read_group
decreases-read_group l = 3 * depth (data_of l.element.now)

abbrev pub decreases-read_parts : goal.decreases-read_parts
decreases-read_parts l = 3 * items_depth (items_of l.items.now) + 2

abbrev pub decreases-part_at : goal.decreases-part_at
decreases-part_at l = 3 * depth (data_of l.item.now) + 1

abbrev pub decreases-read_part : goal.decreases-read_part
decreases-read_part l = 3 * depth (data_of l.item.now)

abbrev pub decreases-read_named_part : goal.decreases-read_named_part
decreases-read_named_part l = 3 * depth (data_of l.element.now) + 1

abbrev pub invariant-read_parts-loop-i : goal.invariant-read_parts-loop-i
invariant-read_parts-loop-i l = with_front l.parts (each part_of l.i (items_of (drop l.i l.items))) ≡ each part_of 0 (items_of l.items)
