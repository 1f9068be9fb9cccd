use Rattle.vectors.specs.Drawing.{below}
use Rattle.vectors.specs.declared.numbers.TheConstants.{BYTE_VALUES}
use Rattle.vectors.proofs.Gathering.{times_go, times_end}
use Rattle.vectors.proofs.blocks.draw_data.Goals as goal

pub loop-preserved : goal.loop-preserved
loop-preserved c = rw c.in_ok-push.ensures.ok (times_go (below BYTE_VALUES) c.args.count c.loop.counter _ _ _ _ _ c.loop-test.true c.draw.ensures.drawn c.loop.invariant)

pub returns : goal.returns
returns c = times_end (below BYTE_VALUES) c.args.count c.loop.counter _ _ _ c.loop-test.false c.loop.invariant
