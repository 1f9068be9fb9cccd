use Rattle.vectors.specs.Values.{octet_drawn}
use Rattle.vectors.proofs.Gathering.{times_go, times_end}
use Rattle.vectors.proofs.numbers.draw_octets.Goals as goal

pub loop-preserved : goal.loop-preserved
loop-preserved c = rw c.in_ok-push.ensures.ok (times_go octet_drawn c.args.count c.loop.counter _ _ _ _ _ c.loop-test.true c.draw_octet.ensures c.loop.invariant)

pub returns : goal.returns
returns c = times_end octet_drawn c.args.count c.loop.counter _ _ _ c.loop-test.false c.loop.invariant
