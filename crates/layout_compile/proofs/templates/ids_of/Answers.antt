use Rattle.std.proofs.Common.{arith}
use Rattle.layout_compile.proofs.Ids.{one_more}
use Rattle.layout_compile.proofs.templates.ids_of.Goals as goal

pub loop-i-preserved : goal.loop-i-preserved
loop-i-preserved c = λ id. one_more id c.args.messages.now c.loop-i.i c.index-messages-i.result _ _ (omega arith) c.index-messages-i.is (c.loop-i.invariant id) (c.in_ok-add_id.ensures id)
