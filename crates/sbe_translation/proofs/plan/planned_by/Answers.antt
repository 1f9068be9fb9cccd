use Rattle.sbe_translation.proofs.plan.planned_by.Goals as goal

pub trees_of-requires-clause-plans : goal.trees_of-requires-clause-plans
trees_of-requires-clause-plans c = c.in_ok-plan.ensures

pub returns : goal.returns
returns c = λ tables. record { plans = c.in_ok-plan.ensures; trees = c.in_ok-trees.ensures tables }
