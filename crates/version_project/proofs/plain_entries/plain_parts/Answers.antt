use Rattle.version_project.specs.IsPlain.{part_is_plain}
use Rattle.version_project.proofs.Opens.{pairs_go, pairs_stop}
use Rattle.version_project.proofs.plain_entries.plain_parts.Goals as goal

pub returns-then-not-plain_part : goal.returns-then-not-plain_part
returns-then-not-plain_part c = pairs_stop (part_is_plain c.args.version) c.args.parts.now _ c.args.values.now c.loop-i.i _ _ _ c.as_slice-part-items.ensures c.loop-i-test.true c.part-item.is c.at.ensures c.plain_part.ensures c.if-not-plain_part.true c.loop-i.invariant

pub loop-i-preserved : goal.loop-i-preserved
loop-i-preserved c = pairs_go (part_is_plain c.args.version) c.args.parts.now _ c.args.values.now c.loop-i.i _ _ _ c.as_slice-part-items.ensures c.loop-i-test.true c.part-item.is c.at.ensures c.plain_part.ensures c.if-not-plain_part.false c.loop-i.invariant
