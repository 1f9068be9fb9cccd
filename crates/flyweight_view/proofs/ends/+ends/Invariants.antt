use Rattle.std.proofs.Common.{◌≡◌, ◌+◌, ◌-◌, ◌*◌, length}
use Rattle.schema_facts.specs.Levels.{all_nodes}
use Rattle.flyweight_view.specs.inner.Groups.{groups_at, StandThere}
use Rattle.flyweight_view.specs.inner.Layers.{blocks_at, LieThere}
use Rattle.flyweight_view.specs.inner.Lefts.{rest_of}
use Rattle.flyweight_view.proofs.ends.+ends.Given as goal

abbrev pub invariant-groups_end-loop : goal.invariant-groups_end-loop
invariant-groups_end-loop l =
    record {
      next : l.cursor.next ≡ l.counter;
      stand : StandThere l.layer l.cursor;
      rest : rest_of (groups_at l.layer l.fn.cursor) ≡ rest_of (groups_at l.layer l.cursor);
    }

abbrev pub invariant-entries_end-loop : goal.invariant-entries_end-loop
invariant-entries_end-loop l =
    record {
      many : l.left.count + l.counter ≡ l.fn.dim.count;
      lie : LieThere l.layer l.left;
      rest : rest_of (blocks_at l.layer l.fn.dim) ≡ rest_of (blocks_at l.layer l.left);
    }

abbrev pub decreases-step_group : goal.decreases-step_group
decreases-step_group l = 6 * (length (all_nodes l.layer.now.layout.now) - l.layer.now.number)

abbrev pub decreases-groups_end : goal.decreases-groups_end
decreases-groups_end l = 6 * (length (all_nodes l.layer.now.layout.now) - l.layer.now.number) + 1

abbrev pub decreases-entry_end : goal.decreases-entry_end
decreases-entry_end l = 6 * (length (all_nodes l.layer.now.layout.now) - l.layer.now.number) + 2

abbrev pub decreases-behind_first : goal.decreases-behind_first
decreases-behind_first l = 6 * (length (all_nodes l.layer.now.layout.now) - l.layer.now.number) + 3

abbrev pub decreases-entries_end : goal.decreases-entries_end
decreases-entries_end l = 6 * (length (all_nodes l.layer.now.layout.now) - l.layer.now.number) + 4

abbrev pub decreases-group_end : goal.decreases-group_end
decreases-group_end l = 6 * (length (all_nodes l.layer.now.layout.now) - l.layer.now.number) + 5
