use Rattle.std.proofs.Common.{arith}
use Rattle.layout_compile.proofs.DataParts.{firsts_more}
use Rattle.layout_compile.proofs.numbers.firsts_of.Goals as goal

pub loop-row-preserved : goal.loop-row-preserved
loop-row-preserved c =
    firsts_more c.args.levels.now c.loop-row.row-index c.loop-row.before c.in-Some.next c.loop-row.firsts.items c.push.new.self.items c.row-item.result
    (omega arith) c.row-item.is c.loop-row.invariant c.in_ok-push.ensures.items (omega (arith, c.in-Some.ensures))
