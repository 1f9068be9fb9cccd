use Rattle.std.proofs.Common.{refl, subst}
use Rattle.sbe_c.specs.declared.answers.Answer.TheVariants.{Closed}
use Rattle.sbe_c.specs.Reading.{AnswersFind}
use Rattle.sbe_c.proofs.exports.sbe_find.Goals as goal

pub returns-in-None-clause-finds : goal.returns-in-None-clause-finds
returns-in-None-clause-finds c = record {
  answer = Closed;
  number = c.code-in-None.ensures;
  answers = subst (λ handle. AnswersFind Closed handle (record { template = c.args.template; group = c.args.group; field = c.args.field }) c.args.place.now) c.in-None.ensures.value refl;
}
