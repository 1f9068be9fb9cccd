use Rattle.plan_rows.proofs.Ruling.{turned_ok}
use Rattle.message_plans.proofs.making.make_plan.Goals as goal

pub returns : goal.returns
returns g c = turned_ok c.plan_by-plan.result c.plan_by-plan.ensures (λ plan own. own c.in_ok-tables.ensures)
