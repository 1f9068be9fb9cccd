use Rattle.std.proofs.Common.{◌≡◌, ◌≤◌, List, length}
use Rattle.bridge_terms.specs.Plans.{Plan}
use Rattle.field_judge.specs.declared.level.BackLevel.{BackLevel}
use Rattle.field_blocks.specs.Found.{parts_in, AreFound, HoldsFields}
use Rattle.field_blocks.proofs.fields.field_values.Given as goal

abbrev pub invariant-loop-i : goal.invariant-loop-i
invariant-loop-i l =
    record {
      size : length l.values ≡ l.i;
      within : l.i ≤ length l.own;
      held : (levels : List BackLevel) (p : Plan) → AreFound levels p l.back l.places l.fields → HoldsFields p (parts_in p l.fields) l.own l.values;
    }
