use Rattle.std.proofs.Common.{take}
use Rattle.exact_plans.specs.Rows.{AreSmall}
use Rattle.exact_plans.proofs.clear.read_tags.Given as goal

abbrev pub invariant-loop-row : goal.invariant-loop-row
invariant-loop-row g l = AreSmall (take l.row-index l.rows)
