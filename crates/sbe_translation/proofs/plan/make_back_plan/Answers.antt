use Rattle.std.proofs.Common.{◌≡◌, Result, Ok, Err}
use Rattle.sbe_translation.proofs.Planning.{ok_held}
use Rattle.sbe_translation.proofs.plan.make_back_plan.Goals as goal

pub returns-in-Ok : goal.returns-in-Ok
returns-in-Ok c =
    let planned = ok_held c.planned_by-planned.result _ _ c.in-Ok.is c.planned_by-planned.ensures c.in_ok-tables.ensures in
    record { plans = planned.plans; trees = planned.trees; tags = c.in_ok-tables.ensures.tags }
