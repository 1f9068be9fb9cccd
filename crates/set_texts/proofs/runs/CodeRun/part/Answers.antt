use Rattle.std.proofs.Common.{subst, sym}
use Rattle.set_texts.specs.Runs.{IsRun}
use Rattle.set_texts.proofs.runs.CodeRun.part.Goals as goal

pub returns : goal.returns
returns c = λ codes run. (subst (λ own. IsRun own codes) (sym c.self.view_is) run) c.args.bits c.at.result.now c.at.ensures
