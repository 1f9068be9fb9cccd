use Rattle.std.proofs.Common.{arith}
use Rattle.version_project.proofs.MessageWalk.{found_here, passed_by, none_left}
use Rattle.version_project.proofs.differ.messages.message_of.Goals as goal

pub returns-then-at-id : goal.returns-then-at-id
returns-then-at-id c = found_here c.args.messages.now c.args.id c.loop-i.i _ c.at.ensures c.if-at-id.true c.loop-i.invariant

pub loop-i-preserved : goal.loop-i-preserved
loop-i-preserved c = passed_by c.args.messages.now c.args.id c.loop-i.i _ c.at.ensures c.if-at-id.false c.loop-i.invariant

pub returns : goal.returns
returns c = none_left c.args.messages.now c.args.id c.loop-i.i (omega arith) c.loop-i.invariant
