use Rattle.std.proofs.Common.{◌≡◌, ◌-◌, ◌≤◌, ℕ, List, get_or, length}
use Rattle.bridge_terms.specs.Plans.{Plan}
use Rattle.field_judge.specs.declared.level.BackLevel.{BackLevel}
use Rattle.field_judge.specs.Levels.{IsLevel, IsNumbered}
use Rattle.field_judge.proofs.Locating.{LocatesSoFar}
use Rattle.field_judge.proofs.missing.part_places.Given as goal

abbrev pub invariant-fields : goal.invariant-fields
invariant-fields l =
    record {
      near : l.i ≤ length l.fields;
      size : length l.places.items ≡ length l.level.rows;
      within : (k : ℕ) → get_or l.places.items k 0 ≤ length l.fields;
      located : (levels : List BackLevel) (p : Plan) → IsLevel levels p l.level → IsNumbered p → LocatesSoFar p l.places.items l.fields l.i;
    }

abbrev pub decreases-fields : goal.decreases-fields
decreases-fields l = length l.fields - l.i
