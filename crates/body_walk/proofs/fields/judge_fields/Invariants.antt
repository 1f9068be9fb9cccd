use Rattle.std.proofs.Common.{◌≡◌, drop, length}
use Rattle.body_walk.specs.inner.Outcomes.{piece}
use Rattle.body_walk.specs.inner.Fields.{fields_check, AreFieldRows}
use Rattle.body_walk.proofs.fields.judge_fields.Given as goal

abbrev pub invariant-loop-i : goal.invariant-loop-i
invariant-loop-i l =
    record {
      long : length l.rows ≡ length l.fields;
      rows : AreFieldRows l.mode.version (length l.block) (drop l.i l.fields) (drop l.i l.rows);
      told : fields_check l.mode (piece l.at l.block) l.i (drop l.i l.fields) (drop l.i l.rows) ≡ fields_check l.mode (piece l.at l.block) 0 l.fields l.rows;
    }
