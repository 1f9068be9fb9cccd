use Rattle.value_texts.proofs.Values.{ready_of, seen_of}
use Rattle.sbe_types.specs.declared.message.Block.{out-Block}
use Rattle.value_texts.proofs.seen.field_at.Goals as goal

pub returns-clause-ready : goal.returns-clause-ready
returns-clause-ready c = ready_of c.field.result _ c.field.ensures.order c.field.ensures.shows

pub returns-clause-seen : goal.returns-clause-seen
returns-clause-seen c = seen_of c.field.result c.args.number (out-Block c.args.block.now.block).fields c.field.ensures.shows c.field.ensures.absent
