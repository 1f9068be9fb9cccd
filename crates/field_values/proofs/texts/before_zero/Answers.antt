use Rattle.std.proofs.Common.{sym}
use Rattle.field_values.proofs.Zeros.{zero_none, zero_some}
use Rattle.field_values.proofs.texts.before_zero.Goals as goal

pub returns-in-Some : goal.returns-in-Some
returns-in-Some c = sym (zero_some c.args.bytes.now c.in-Some.i c.in-Some.ensures)

pub returns-in-None : goal.returns-in-None
returns-in-None c = sym (zero_none c.args.bytes.now c.in-None.ensures)
