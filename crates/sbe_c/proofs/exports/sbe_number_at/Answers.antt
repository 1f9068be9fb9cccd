use Rattle.std.proofs.Common.{refl, subst}
use Rattle.sbe_c.specs.declared.answers.Answer.TheVariants.{Closed}
use Rattle.field_lookup.specs.Places.{spot_at}
use Rattle.sbe_c.specs.Fields.{AnswersNumber}
use Rattle.sbe_c.proofs.exports.sbe_number_at.Goals as goal

pub returns-in-None-clause-numbers : goal.returns-in-None-clause-numbers
returns-in-None-clause-numbers c = record {
  answer = Closed;
  number = c.code-in-None.ensures;
  answers = subst (λ handle. AnswersNumber Closed handle c.args.body.now (spot_at c.args.steps.now c.args.field.now) (c.args.number.now, c.args.report.now)) c.in-None.ensures.value refl;
}
