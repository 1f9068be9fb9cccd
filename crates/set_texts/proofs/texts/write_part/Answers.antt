use Rattle.std.proofs.Common.{arith}
use Rattle.set_texts.proofs.Written.{more_written}
use Rattle.set_texts.proofs.texts.write_part.Goals as goal

pub returns-clause-more : goal.returns-clause-more
returns-clause-more c = λ before codes run is.
    more_written c.args.written c.args.room.now c.put-end.new.room before codes c.args.bits c.put-end.result c.in_ok-shown.shown c.part-part.result.now is (c.part-part.ensures codes run)
    c.put-end.ensures.placed (omega (arith, c.put-end.ensures.within, c.if-written.false, c.requires)) (omega (arith, c.in_ok-shown.ensures, c.shown.ensures))
