use Rattle.version_project.proofs.NarrowLevels.{narrow_at}
use Rattle.version_project.proofs.MessageWalk.{messages_go, messages_stop}
use Rattle.version_project.specs.Narrow.{IsNarrowLevel}
use Rattle.version_project.proofs.differ.messages.messages_differ.Goals as goal

pub message_differs-requires-clause-old : goal.message_differs-requires-clause-old
message_differs-requires-clause-old c = narrow_at IsNarrowLevel c.args.olds.now c.loop-i.i _ c.requires.old c.at.ensures

pub returns-in-Some : goal.returns-in-Some
returns-in-Some c =
    messages_stop c.args.version c.args.more c.args.olds.now c.args.news.now _ c.loop-i.i _ _ _ c.at.ensures c.in_ok-found.ensures c.in-Some.is c.loop-i.invariant

pub loop-i-preserved : goal.loop-i-preserved
loop-i-preserved c =
    messages_go c.args.version c.args.more c.args.olds.now c.args.news.now _ c.loop-i.i _ _ c.at.ensures c.in_ok-found.ensures c.in_default.is c.loop-i.invariant
