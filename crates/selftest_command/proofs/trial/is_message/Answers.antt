use Rattle.selftest_command.proofs.Summing.{lies_there, lies_nowhere}
use Rattle.selftest_command.proofs.trial.is_message.Goals as goal

pub returns-in-Ok : goal.returns-in-Ok
returns-in-Ok c = lies_there c.args.layout.now c.args.body.now _ c.schema-schema.ensures.order.placed c.in-Ok.ensures.lies

pub returns-in-Err : goal.returns-in-Err
returns-in-Err c = lies_nowhere c.args.layout.now c.args.body.now _ c.schema-schema.ensures.order.placed c.in-Err.ensures.fault
