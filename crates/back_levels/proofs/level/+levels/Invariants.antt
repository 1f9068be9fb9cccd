use Rattle.std.proofs.Common.{◌≡◌, ◌+◌, ◌*◌, ◌≤◌, length}
use Rattle.reference_graph.specs.Expansion.{Structure}
use Rattle.structure_rows.specs.Rows.{rows_of}
use Rattle.bridge_plan.specs.Mappings.{Mapping}
use Rattle.bridge_plan.specs.Covers.{plan_of}
use Rattle.bridge_cover.specs.Tables.{AreTables}
use Rattle.plan_rows.specs.Found.{own_length}
use Rattle.back_levels.specs.Found.{AreKept, Goes}
use Rattle.back_levels.proofs.level.+levels.Given as goal

abbrev pub decreases-level_of : goal.decreases-level_of
decreases-level_of l = 4 * length l.places.now + 1

abbrev pub decreases-level_by : goal.decreases-level_by
decreases-level_by l = 4 * length l.places.now

abbrev pub decreases-group_row : goal.decreases-group_row
decreases-group_row l = 4 * length l.places.now + 2

abbrev pub decreases-place_row : goal.decreases-place_row
decreases-place_row l = 4 * own_length l.own + 3

abbrev pub invariant-level_by-places : goal.invariant-level_by-places
invariant-level_by-places l =
    record {
      shorter : length l.left ≤ length l.places;
      kept : AreKept l.fn.levels.items l.levels.items;
      rows : (m : Mapping) (s : Structure) → AreTables m l.tables → l.places ≡ rows_of s
          → (more : Structure) × (l.left ≡ rows_of more) × Goes l.levels.items (plan_of m s l.level) (plan_of m more l.level) l.rows;
    }

abbrev pub decreases-level_by-places : goal.decreases-level_by-places
decreases-level_by-places l = length l.left
