use Rattle.set_texts.proofs.Grown.{one_more}
use Rattle.set_texts.proofs.parts.part_text.Goals as goal
use Rattle.std.proofs.Common.{arith, refl}

pub loop-code-preserved : goal.loop-code-preserved
loop-code-preserved c =
    one_more c.args.codes.now c.args.bits c.loop-code.code-index c.code-item.result c.loop-code.text c.put_choice.new.out c.loop-code.shown c.in_ok-shown.shown
    c.loop-code-test.true c.code-item.is c.loop-code.invariant c.in_ok-bit.ensures.text (c.in_ok-bit.ensures.plain refl c.loop-code.invariant.plain)
    (omega (arith, c.in_ok-shown.ensures, c.in_ok-bit.ensures.sum))
