use Rattle.vectors.specs.Values.{text_byte_drawn}
use Rattle.vectors.proofs.Gathering.{times_go, times_end}
use Rattle.vectors.proofs.texts.draw_bytes.Goals as goal

pub loop-preserved : goal.loop-preserved
loop-preserved c = rw c.in_ok-push.ensures.ok (times_go (text_byte_drawn c.args.leaf.now) c.args.count c.loop.counter _ _ _ _ _ c.loop-test.true c.draw_byte.ensures c.loop.invariant)

pub returns : goal.returns
returns c = times_end (text_byte_drawn c.args.leaf.now) c.args.count c.loop.counter _ _ _ c.loop-test.false c.loop.invariant
