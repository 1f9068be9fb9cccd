use Rattle.regrade.proofs.Namesakes.{found_here, passed_by}
use Rattle.regrade.proofs.templates.template_of.Goals as goal

pub returns-then-at-id : goal.returns-then-at-id
returns-then-at-id c = found_here c.args.messages.now c.args.id c.loop-i.i c.at.result.now c.at.ensures c.if-at-id.true c.loop-i.invariant

pub loop-i-preserved : goal.loop-i-preserved
loop-i-preserved c = passed_by c.args.messages.now c.args.id c.loop-i.i c.at.result.now c.at.ensures c.if-at-id.false c.loop-i.invariant
