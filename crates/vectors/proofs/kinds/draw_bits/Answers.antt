use Rattle.vectors.proofs.KindParts.{bits_go, bits_end}
use Rattle.vectors.proofs.kinds.draw_bits.Goals as goal

pub loop-choice-preserved : goal.loop-choice-preserved
loop-choice-preserved c =
    rw c.with_bit-bits.ensures (bits_go c.args.choices.now _ c.loop-choice.choice-index c.choice-item.result _ _ _ _ _ c.as_slice-choice-items.ensures c.loop-choice-test.true c.choice-item.is c.draw-drawn.ensures.drawn c.loop-choice.invariant)

pub returns : goal.returns
returns c = bits_end c.args.choices.now _ c.loop-choice.choice-index _ _ _ c.as_slice-choice-items.ensures c.loop-choice-test.false c.loop-choice.invariant
