use Rattle.std.proofs.Common.{refl, subst}
use Rattle.sbe_c.specs.declared.answers.Answer.TheVariants.{Closed}
use Rattle.sbe_c.specs.Building.{AnswersBuild}
use Rattle.sbe_c.specs.Outcomes.{outcome}
use Rattle.sbe_c.proofs.exports.sbe_build.Goals as goal

pub returns-in-None-clause-builds : goal.returns-in-None-clause-builds
returns-in-None-clause-builds c = record {
  answer = Closed;
  number = c.code-in-None.ensures;
  answers = subst (λ handle. AnswersBuild Closed handle c.args.line.now (outcome c.args.body.now c.args.body.now c.args.report.now) (outcome c.args.path.now c.args.path.now c.args.report.now)) c.in-None.ensures.value refl;
}
