use Rattle.std.proofs.Common.{arith, take_all, ap, ◌∙◌, length}
use Rattle.tagvalue_codec.proofs.Framing.{few_before, three_end}
use Rattle.tagvalue_codec.proofs.framed.put_few.Goals as goal

pub returns-clause-put : goal.returns-clause-put
returns-clause-put c =
    few_before c.args.memory.now c.put_front.new.room c.args.count c.args.at _ c.digit_count-digits.result _ c.put_front.ensures
    (take_all 4 c.three_digits.result (omega (arith, ap length c.three_digits.ensures)) ∙ c.three_digits.ensures) c.digit_count-digits.ensures.is c.requires.few (omega (arith, c.requires.room)) c.requires.within

pub returns-clause-short : goal.returns-clause-short
returns-clause-short c = omega (arith, (three_end c.args.count c.requires.few).2, c.digit_count-digits.ensures.is, c.requires.room)

pub overflow_sub-result-2 : goal.overflow_sub-result-2
overflow_sub-result-2 c = omega (arith, (three_end c.args.count c.requires.few).2, c.digit_count-digits.ensures.is, c.requires.room)
