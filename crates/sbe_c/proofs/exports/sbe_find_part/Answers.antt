use Rattle.std.proofs.Common.{refl, subst}
use Rattle.sbe_c.specs.declared.answers.Answer.TheVariants.{Closed}
use Rattle.sbe_c.specs.Naming.{AnswersPart}
use Rattle.sbe_c.proofs.exports.sbe_find_part.Goals as goal

pub returns-in-None-clause-names : goal.returns-in-None-clause-names
returns-in-None-clause-names c = record {
  answer = Closed;
  number = c.code-in-None.ensures;
  answers = subst (λ handle. AnswersPart Closed handle (record { sort = c.args.sort; level = c.args.level; name = c.args.name.now }) c.args.part.now) c.in-None.ensures.value refl;
}
