use Rattle.std.proofs.Common.{◌-◌, arith}
use Rattle.field_blocks.proofs.Rows.{before_is, none_before}
use Rattle.field_blocks.proofs.reading.text_before.Goals as goal

pub returns-then-place-eq0 : goal.returns-then-place-eq0
returns-then-place-eq0 c = λ h. none_before c.args.fields.now c.args.place h c.if-place-eq0.true

pub returns : goal.returns
returns c = λ h. before_is c.args.fields.now c.args.place (c.args.place - 1) h c.field_at.result (omega (arith, c.if-place-eq0.false)) c.field_at.ensures
