use Rattle.std.proofs.Common.{arith}
use Rattle.exact_plans.specs.Rows.{IsSmall}
use Rattle.exact_plans.proofs.Taking.{all_taken}
use Rattle.exact_plans.proofs.clear.read_tags.Goals as goal

pub loop-row-preserved : goal.loop-row-preserved
loop-row-preserved g c = all_taken (λ r. IsSmall r) c.args.rows.now c.loop-row.row-index c.row-item.result (omega arith) c.row-item.is c.loop-row.invariant c.read_row.ensures
