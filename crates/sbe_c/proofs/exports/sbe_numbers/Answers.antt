use Rattle.std.proofs.Common.{refl, subst}
use Rattle.sbe_c.specs.declared.answers.Answer.TheVariants.{Closed}
use Rattle.sbe_c.specs.Outcomes.{numbers_outcome}
use Rattle.sbe_c.specs.Reading.{AnswersNumbers}
use Rattle.sbe_c.proofs.exports.sbe_numbers.Goals as goal

pub returns-in-None-clause-reads : goal.returns-in-None-clause-reads
returns-in-None-clause-reads c = record {
  answer = Closed;
  number = c.code-in-None.ensures;
  answers = subst (λ handle. AnswersNumbers Closed handle c.args.body.now c.args.place.now (numbers_outcome c.args.numbers.now c.args.numbers.now c.args.report.now)) c.in-None.ensures.value refl;
}
