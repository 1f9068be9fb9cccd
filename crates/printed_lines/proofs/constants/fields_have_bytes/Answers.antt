use Rattle.std.proofs.Common.{◌≤◌, ◌<◌, length, take, sym, subst, arith}
use Rattle.std.proofs.lemmas.List.{take_all}
use Rattle.std.proofs.lemmas.List.Elements.{All-more, All-same}
use Rattle.printed_lines.specs.ByteConstants.{IsByteField}
use Rattle.printed_lines.proofs.constants.fields_have_bytes.Goals as goal

pub loop-field-preserved : goal.loop-field-preserved
loop-field-preserved c =
    let inside : c.loop-field.field-index < length c.args.fields.now = omega (arith, c.loop-field-test.true, c.loop-field.auto.field-index-end) in
    All-more IsByteField c.args.fields.now c.loop-field.field-index c.field-item.result inside c.loop-field.invariant (subst IsByteField c.field-item.is c.kind_has_bytes.ensures)

pub returns : goal.returns
returns c =
    let past : length c.args.fields.now ≤ c.loop-field.field-index = omega (arith, c.loop-field-test.false, c.loop-field.auto.field-index-end) in
    All-same IsByteField c.args.fields.now (take c.loop-field.field-index c.args.fields.now) (sym (take_all c.loop-field.field-index c.args.fields.now past)) c.loop-field.invariant
