use Rattle.std.proofs.Common.{refl, ap, ◌∙◌}
use Rattle.std.specs.Option.{option_and_then}
use Rattle.field_values.specs.Reports.{text_in}
use Rattle.flyweight_view.proofs.SlotsTold.{slot_value, alive_of}
use Rattle.flyweight_view.proofs.values.field_text.Goals as goal

pub returns : goal.returns
returns c =
    let value = slot_value c.args.span.now c.args.plan.now c.requires.seen c.args.i c.slot_of-slot.result c.slot_of-slot.ensures in
    let told = alive_of text_in c.args.span.now c.args.plan.now c.args.i c.slot_of-slot.result refl value c.requires.text in
    ap (option_and_then text_in) value.1
    ∙ c.text_in.ensures c.args.span.now.mode.order c.args.span.now.mode.known c.slot_of-slot.result.kind.now value.0 (value.2.shows told.0) told.1
