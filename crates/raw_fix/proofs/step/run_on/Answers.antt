use Rattle.raw_fix.proofs.StepLemmas.{run_at, run_not}
use Rattle.raw_fix.proofs.step.run_on.Goals as goal

pub returns-in-At-clause-steps : goal.returns-in-At-clause-steps
returns-in-At-clause-steps c = run_at c.args.held.now c.args.front c.in-At.i c.args.run c.longer.result c.requires.within c.in-At.ensures c.longer.ensures

pub returns-in-NotIn-clause-steps : goal.returns-in-NotIn-clause-steps
returns-in-NotIn-clause-steps c = run_not c.args.held.now c.args.front c.in-NotIn.n c.args.run c.longer-in-NotIn.result c.requires.within c.in-NotIn.ensures c.longer-in-NotIn.ensures
