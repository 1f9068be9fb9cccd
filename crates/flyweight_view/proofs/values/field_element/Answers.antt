use Rattle.std.proofs.Common.{ap, ◌∙◌}
use Rattle.std.specs.Prelude.{slice_get}
use Rattle.field_values.specs.Reports.{all_elements}
use Rattle.flyweight_view.proofs.SlotsTold.{slot_value, array_of}
use Rattle.flyweight_view.proofs.values.field_element.Goals as goal

pub element_in-requires : goal.element_in-requires
element_in-requires c =
    let value = slot_value c.args.span.now c.args.plan.now c.requires.seen c.args.i c.slot_of-slot.result c.slot_of-slot.ensures in
    let told = array_of c.args.span.now c.args.plan.now c.args.i c.args.j c.slot_of-slot.result value c.requires.element in
    (c.args.span.now.mode.known, value.0, value.2.shows told.0, told.1)

pub returns : goal.returns
returns c =
    let value = slot_value c.args.span.now c.args.plan.now c.requires.seen c.args.i c.slot_of-slot.result c.slot_of-slot.ensures in
    let told = array_of c.args.span.now c.args.plan.now c.args.i c.args.j c.slot_of-slot.result value c.requires.element in
    ap (λ o. slice_get (all_elements o) c.args.j) value.1 ∙ c.element_in.ensures c.args.span.now.mode.known value.0 (value.2.shows told.0) told.1
