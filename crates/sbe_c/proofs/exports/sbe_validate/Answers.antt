use Rattle.std.proofs.Common.{refl, subst}
use Rattle.sbe_c.specs.declared.answers.Answer.TheVariants.{Closed}
use Rattle.sbe_c.specs.Outcomes.{outcome}
use Rattle.sbe_c.specs.Validating.{AnswersValidate}
use Rattle.sbe_c.proofs.exports.sbe_validate.Goals as goal

pub returns-in-None-clause-validates : goal.returns-in-None-clause-validates
returns-in-None-clause-validates c = record {
  answer = Closed;
  number = c.code-in-None.ensures;
  answers = subst (λ handle. AnswersValidate Closed handle c.args.body.now c.args.message.now (outcome c.args.path.now c.args.path.now c.args.report.now)) c.in-None.ensures.value refl;
}
