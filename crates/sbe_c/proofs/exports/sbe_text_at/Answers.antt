use Rattle.std.proofs.Common.{refl, subst}
use Rattle.sbe_c.specs.declared.answers.Answer.TheVariants.{Closed}
use Rattle.field_lookup.specs.Places.{message_text, spot_at}
use Rattle.sbe_c.specs.Fields.{AnswersText}
use Rattle.sbe_c.specs.Outcomes.{outcome}
use Rattle.sbe_c.proofs.exports.sbe_text_at.Goals as goal

pub returns-in-None-clause-texts : goal.returns-in-None-clause-texts
returns-in-None-clause-texts c = record {
  answer = Closed;
  number = c.code-in-None.ensures;
  answers = subst (λ handle. AnswersText (message_text (spot_at c.args.steps.now c.args.field.now)) Closed handle c.args.body.now (outcome c.args.text.now c.args.text.now c.args.report.now)) c.in-None.ensures.value refl;
}
