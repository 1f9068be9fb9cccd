use Rattle.std.proofs.Common.{refl}
use Rattle.body_walk.proofs.FieldsTold.{rows_long}
use Rattle.body_walk.proofs.fields.judge_fields.Goals as goal

pub loop-i-init : goal.loop-i-init
loop-i-init c = record {
  long = rows_long _ _ _ _ c.requires.rows;
  rows = c.requires.rows;
  told = refl;
}
