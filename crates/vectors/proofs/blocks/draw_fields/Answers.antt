use Rattle.vectors.specs.Messages.{field_drawn}
use Rattle.vectors.proofs.Gathering.{each_go, each_end}
use Rattle.vectors.proofs.blocks.draw_fields.Goals as goal

pub loop-field-preserved : goal.loop-field-preserved
loop-field-preserved c =
    rw c.in_ok-push.ensures.ok (each_go field_drawn c.args.fields.now _ c.loop-field.field-index c.field-item.result _ _ _ _ _ c.as_slice-field-items.ensures c.loop-field-test.true c.field-item.is c.in_ok-draw_kind.ensures c.loop-field.invariant)

pub returns : goal.returns
returns c = each_end field_drawn c.args.fields.now _ c.loop-field.field-index _ _ _ c.as_slice-field-items.ensures c.loop-field-test.false c.loop-field.invariant
