use Rattle.std.proofs.Common.{refl, subst}
use Rattle.sbe_c.specs.declared.answers.Answer.TheVariants.{Closed}
use Rattle.field_lookup.specs.Places.{message_data}
use Rattle.sbe_c.specs.Fields.{AnswersText}
use Rattle.sbe_c.specs.Outcomes.{outcome}
use Rattle.sbe_c.proofs.exports.sbe_data_at.Goals as goal

pub returns-in-None-clause-texts : goal.returns-in-None-clause-texts
returns-in-None-clause-texts c = record {
  answer = Closed;
  number = c.code-in-None.ensures;
  answers = subst (λ handle. AnswersText (message_data c.args.steps.now c.args.part) Closed handle c.args.body.now (outcome c.args.bytes.now c.args.bytes.now c.args.report.now)) c.in-None.ensures.value refl;
}
