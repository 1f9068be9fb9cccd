use Rattle.std.proofs.Common.{◌≡◌, ◌+◌, ◌-◌, false, take, arith, sym, ◌∙◌, subst}
use Rattle.std.specs.Result.{is_ok}
use Rattle.tagvalue_codec.specs.Reading.{text_read}
use Rattle.raw_walk.proofs.Judged.{sum_in}
use Rattle.raw_walk.proofs.recall.Recall.may_be.Goals as goal

pub returns-then-not-is_sum_field-clause-refuses : goal.returns-then-not-is_sum_field-clause-refuses
returns-then-not-is_sum_field-clause-refuses c = λ no.
    sum_in c.args.tags.now c.args.held.now (c.args.size - 7) c.args.size c.sum_to-sum.result c.requires.size (omega arith) c.sum_to-sum.ensures.sum (sym c.is_sum_field.ensures ∙ c.if-not-is_sum_field.true)

pub returns-clause-refuses : goal.returns-clause-refuses
returns-clause-refuses c = λ no.
    let whole : c.args.size - 7 + 7 ≡ c.args.size = omega arith in
    subst (λ k. is_ok (text_read c.args.tags.now (take k c.args.held.now)) ≡ false) whole (c.may_be_fields.ensures.refuses no)
