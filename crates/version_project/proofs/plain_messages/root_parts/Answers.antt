use Rattle.version_project.proofs.RootWalk.{parts_go, parts_stop}
use Rattle.version_project.proofs.plain_messages.root_parts.Goals as goal

pub returns-then-not-plain_part : goal.returns-then-not-plain_part
returns-then-not-plain_part c =
    parts_stop c.args.version c.args.parts.now _ c.args.values.now c.loop-i.i _ _ c.plain_part.result c.has_old_part.result c.as_slice-part-items.ensures c.loop-i-test.true c.part-item.is c.at.ensures
    c.plain_part.ensures c.if-not-plain_part.true c.has_old_part.ensures c.loop-i.invariant

pub loop-i-preserved : goal.loop-i-preserved
loop-i-preserved c =
    parts_go c.args.version c.args.parts.now _ c.args.values.now c.loop-i.i _ _ c.plain_part.result c.as_slice-part-items.ensures c.loop-i-test.true c.part-item.is c.at.ensures
    c.plain_part.ensures c.if-not-plain_part.false c.loop-i.invariant
