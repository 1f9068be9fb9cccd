use Rattle.selftest_command.proofs.Summing.{none_sums}
use Rattle.selftest_command.proofs.trial.sum_drawn.Goals as goal

pub returns-then-is_empty-clause-sums : goal.returns-then-is_empty-clause-sums
returns-then-is_empty-clause-sums c =
    none_sums c.args.checked.now c.args.trial c.args.index c.none.result c.messages.result.now c.is_empty.result c.messages.ensures c.is_empty.ensures c.if-is_empty.true c.none.ensures
