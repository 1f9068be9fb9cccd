use Rattle.std.proofs.Common.{arith}
use Rattle.flat_rows.proofs.Bits.{no_bits, more_bits, all_bits}
use Rattle.flat_rows.proofs.quick.bits_of.Goals as goal

pub loop-choice-init : goal.loop-choice-init
loop-choice-init c = no_bits c.args.choices.now

pub loop-choice-preserved : goal.loop-choice-preserved
loop-choice-preserved c =
    more_bits c.args.choices.now c.loop-choice.choice-index c.choice-item.result c.loop-choice.bits c.with_bit-bits.result (omega arith) c.choice-item.is c.with_bit-bits.ensures c.loop-choice.invariant

pub returns : goal.returns
returns c = all_bits c.args.choices.now c.loop-choice.choice-index c.loop-choice.bits (omega arith) c.loop-choice.invariant
