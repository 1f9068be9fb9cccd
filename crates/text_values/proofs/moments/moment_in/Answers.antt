use Rattle.std.proofs.Common.{◌∙◌}
use Rattle.bridge_rules.specs.Values.{instant_read}
use Rattle.bridge_table.specs.Rows.{epoch_of, unit_of}
use Rattle.text_values.proofs.Counting.{instant_counted, instant_refused}
use Rattle.text_values.proofs.moments.moment_in.Goals as goal

pub returns-in-Ok : goal.returns-in-Ok
returns-in-Ok c = c.counted_value.ensures ∙ instant_counted c.args.leaf.now (unit_of c.args.unit.now) c.moment_of.result (instant_read (epoch_of c.args.epoch) c.args.text.now) c.in-Ok.moment c.moment_of.ensures c.in-Ok.is

pub returns-in-Err : goal.returns-in-Err
returns-in-Err c = c.not_read.ensures ∙ instant_refused c.args.leaf.now (unit_of c.args.unit.now) c.moment_of.result (instant_read (epoch_of c.args.epoch) c.args.text.now) c.in-Err.why c.moment_of.ensures c.in-Err.is
