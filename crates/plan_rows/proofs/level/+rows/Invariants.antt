use Rattle.std.proofs.Common.{◌≡◌, ◌+◌, ◌*◌, ◌≤◌, length}
use Rattle.reference_graph.specs.Expansion.{Structure}
use Rattle.structure_rows.specs.Rows.{rows_of}
use Rattle.bridge_plan.specs.Mappings.{Mapping}
use Rattle.bridge_plan.specs.Covers.{plan_of}
use Rattle.bridge_cover.specs.Tables.{AreTables}
use Rattle.plan_rows.specs.Found.{own_length, Goes}
use Rattle.plan_rows.proofs.level.+rows.Given as goal

abbrev pub decreases-level_rows : goal.decreases-level_rows
decreases-level_rows g l = 3 * length l.places.now

abbrev pub decreases-group_rows : goal.decreases-group_rows
decreases-group_rows g l = 3 * length l.places.now + 1

abbrev pub decreases-place_rows : goal.decreases-place_rows
decreases-place_rows g l = 3 * own_length l.own + 2

abbrev pub invariant-level_rows-places : goal.invariant-level_rows-places
invariant-level_rows-places g l =
    record {
      shorter : length l.left ≤ length l.places;
      rows : (m : Mapping) (s : Structure) → AreTables m l.tables → l.places ≡ rows_of s
          → (more : Structure) × (l.left ≡ rows_of more) × Goes g.R.RuleRow.follows_rule m.lists (plan_of m s l.level) (plan_of m more l.level) l.rows.items;
    }

abbrev pub decreases-level_rows-places : goal.decreases-level_rows-places
decreases-level_rows-places g l = length l.left
