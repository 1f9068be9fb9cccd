use Rattle.std.proofs.Common.{arith}
use Rattle.tagvalue_codec.proofs.Lists.{marked_here, unmarked_here}
use Rattle.text_heads.proofs.scan.plain_length.Goals as goal

pub returns-then-marked-ne0 : goal.returns-then-marked-ne0
returns-then-marked-ne0 c =
    omega (arith, c.loop-i.invariant, marked_here c.args.bytes.now c.loop-i.i c.marks_at-marked.result (omega arith) c.marks_at-marked.ensures c.if-marked-ne0.true)

pub loop-i-preserved : goal.loop-i-preserved
loop-i-preserved c =
    let next = unmarked_here c.args.bytes.now c.loop-i.i c.marks_at-marked.result (omega arith) c.marks_at-marked.ensures c.if-marked-ne0.false in
    (omega arith, omega (arith, next))
