use Rattle.std.proofs.Common.{refl, subst}
use Rattle.sbe_c.specs.declared.answers.Answer.TheVariants.{Closed}
use Rattle.sbe_c.specs.Dumping.{AnswersDump}
use Rattle.sbe_c.specs.Outcomes.{outcome}
use Rattle.sbe_c.proofs.exports.sbe_dump.Goals as goal

pub returns-in-None-clause-dumps : goal.returns-in-None-clause-dumps
returns-in-None-clause-dumps c = record {
  answer = Closed;
  number = c.code-in-None.ensures;
  answers = subst (λ handle. AnswersDump Closed handle c.args.body.now (outcome c.args.line.now c.args.line.now c.args.report.now)) c.in-None.ensures.value refl;
}
