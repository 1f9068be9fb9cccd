use Rattle.std.proofs.Common.{refl, subst}
use Rattle.sbe_c.specs.declared.answers.Answer.TheVariants.{Closed}
use Rattle.field_lookup.specs.Places.{spot_at}
use Rattle.sbe_c.specs.Fields.{AnswersState}
use Rattle.sbe_c.proofs.exports.sbe_state_at.Goals as goal

pub returns-in-None-clause-states : goal.returns-in-None-clause-states
returns-in-None-clause-states c = record {
  answer = Closed;
  number = c.code-in-None.ensures;
  answers = subst (λ handle. AnswersState Closed handle c.args.body.now (spot_at c.args.steps.now c.args.field.now) c.args.report.now) c.in-None.ensures.value refl;
}
