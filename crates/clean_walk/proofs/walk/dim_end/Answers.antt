use Rattle.clean_walk.proofs.Saying.{dim_said}
use Rattle.clean_walk.proofs.walk.dim_end.Goals as goal

pub returns-clause-says : goal.returns-clause-says
returns-clause-says c =
    dim_said c.args.order c.args.body.now c.args.group.now c.in_ok-count.count c.args.at c.as_slice-members.result.now
    c.as_slice-members.ensures c.in_ok-size.ensures.says
