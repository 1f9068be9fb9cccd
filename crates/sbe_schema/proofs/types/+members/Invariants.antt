use Rattle.std.proofs.Common.{◌≡◌, ◌+◌, ◌*◌, drop}
use Rattle.serde_json.specs.Data.{depth, items_depth}
use Rattle.json_data.specs.Trees.{data_of, items_of}
use Rattle.json_elements.specs.Elements.{each}
use Rattle.json_elements.proofs.Children.{with_front}
use Rattle.sbe_schema.specs.Types.{member_of}
use Rattle.sbe_schema.proofs.types.+members.Given as goal

abbrev pub decreases-read_composite : goal.decreases-read_composite
decreases-read_composite l = 3 * depth (data_of l.element.now)

abbrev pub decreases-read_members : goal.decreases-read_members
decreases-read_members l = 3 * items_depth (items_of l.items.now) + 2

abbrev pub decreases-member_at : goal.decreases-member_at
decreases-member_at l = 3 * depth (data_of l.item.now) + 1

abbrev pub decreases-read_member : goal.decreases-read_member
decreases-read_member l = 3 * depth (data_of l.item.now)

abbrev pub decreases-read_named_member : goal.decreases-read_named_member
decreases-read_named_member l = 3 * depth (data_of l.element.now) + 1

abbrev pub invariant-read_members-loop-i : goal.invariant-read_members-loop-i
invariant-read_members-loop-i l = with_front l.members (each member_of l.i (items_of (drop l.i l.items))) ≡ each member_of 0 (items_of l.items)
