use Rattle.std.proofs.Common.{arith}
use Rattle.std.proofs.lemmas.Fmt.{length-decimal-le}
use Rattle.value_texts.proofs.small.write_whole.Goals as goal

pub write_digits-requires : goal.write_digits-requires
write_digits-requires c =
    let short = length-decimal-le 20 c.args.whole (omega arith) (omega (arith, c.ranges.whole.fits)) c.ranges.whole.fits in
    (omega (arith, short, c.requires.left), omega (arith, c.requires.within, c.requires.long))

pub returns-clause-left : goal.returns-clause-left
returns-clause-left c =
    let short = length-decimal-le 20 c.args.whole (omega arith) (omega (arith, c.ranges.whole.fits)) c.ranges.whole.fits in
    omega (arith, short, c.requires.left, c.write_digits.ensures.start)
