use Rattle.std.proofs.Common.{take}
use Rattle.exact_plans.specs.Rows.{AreTagged}
use Rattle.exact_plans.proofs.tagged.read_leads.Given as goal

abbrev pub invariant-loop-row : goal.invariant-loop-row
invariant-loop-row g l = AreTagged (take l.row-index l.rows)
