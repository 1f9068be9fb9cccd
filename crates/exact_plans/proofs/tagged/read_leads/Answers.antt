use Rattle.std.proofs.Common.{arith}
use Rattle.tagvalue_codec.specs.Fields.{IsTag}
use Rattle.exact_plans.proofs.Taking.{all_taken}
use Rattle.exact_plans.proofs.tagged.read_leads.Goals as goal

pub loop-row-preserved : goal.loop-row-preserved
loop-row-preserved g c = all_taken (λ r. IsTag r.lead) c.args.rows.now c.loop-row.row-index c.row-item.result (omega arith) c.row-item.is c.loop-row.invariant c.read_lead.ensures
