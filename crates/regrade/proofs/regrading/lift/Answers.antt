use Rattle.regrade.proofs.Whole.{namesake_within, lifted_there}
use Rattle.regrade.proofs.regrading.lift.Goals as goal

pub at-requires-2 : goal.at-requires-2
at-requires-2 c = namesake_within c.args.from.now c.args.to.now c.args.msg.now c.at.result.now c.at.ensures c.in-Some.template c.in-Some.ensures

pub returns : goal.returns
returns c =
    lifted_there c.args.from.now c.args.to.now c.args.msg.now c.at.result.now c.at.ensures c.in-Some.template c.in-Some.ensures c.at-2.result.now c.in_ok-block.block c.at-2.ensures c.in_ok-block.ensures
