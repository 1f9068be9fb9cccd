use Rattle.vectors.specs.Values.{element_drawn}
use Rattle.vectors.proofs.Gathering.{times_go, times_end}
use Rattle.vectors.proofs.numbers.draw_elements.Goals as goal

pub loop-preserved : goal.loop-preserved
loop-preserved c = rw c.in_ok-push.ensures.ok (times_go (element_drawn c.args.leaf.now) c.args.leaf.now.length c.loop.counter _ _ _ _ _ c.loop-test.true c.draw_element.ensures c.loop.invariant)

pub returns : goal.returns
returns c = times_end (element_drawn c.args.leaf.now) c.args.leaf.now.length c.loop.counter _ _ _ c.loop-test.false c.loop.invariant
