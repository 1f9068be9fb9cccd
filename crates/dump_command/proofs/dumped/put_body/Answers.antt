use Rattle.std.proofs.Common.{◌≡◌, Some, ap, subst}
use Rattle.std.specs.Prelude.{slice_get}
use Rattle.sbe_types.specs.declared.schema.WireSchema.{WireSchema}
use Rattle.sbe_wire.specs.Faults.{FirstFault}
use Rattle.sbe_wire.specs.Lays.{Lays}
use Rattle.sbe_wire.specs.Placed.{IsPlaced}
use Rattle.refused_items.specs.Refused.{refused_line}
use Rattle.dump_lines.specs.Refused.{message_meant, of_fault_in}
use Rattle.dump_lines.proofs.Answered.{message_printed, fault_printed, way_there}
use Rattle.printers.proofs.Printing.{reprinted}
use Rattle.dump_command.proofs.dumped.put_body.Goals as goal

pub put_fault-requires : goal.put_fault-requires
put_fault-requires g c =
    way_there c.layout-layout.result.now c.args.body.now c.look.new.last c.in-None.ensures.fault c.in-None.ensures.template

pub put_message-requires : goal.put_message-requires
put_message-requires g c =
    subst (λ (s : WireSchema). slice_get s.messages c.in-Some.view.message.template ≡ Some c.in-Some.view.level) c.layout-layout.ensures c.in-Some.ensures.level

pub returns-in-Some : goal.returns-in-Some
returns-in-Some g c = λ encoding.
    let same = c.layout-layout.ensures in
    let view = c.in-Some.view in
    message_printed c.args.schemas.now c.args.lines.now c.args.item (record { encoding = encoding; body = c.args.body.now }) view (subst IsPlaced same c.schema-schema.ensures.order.placed)
    (subst (λ s. Lays s view.message c.args.body.now) same c.in-Some.ensures.lies)
    (subst (λ (s : WireSchema). slice_get s.messages view.message.template ≡ Some view.level) same c.in-Some.ensures.level) c.put_message.ensures

pub returns-in-None : goal.returns-in-None
returns-in-None g c = λ encoding.
    let same = c.layout-layout.ensures in
    let last = c.look.new.last in
    fault_printed c.args.schemas.now c.args.lines.now c.args.item (record { encoding = encoding; body = c.args.body.now }) last (subst IsPlaced same c.schema-schema.ensures.order.placed)
    (subst (λ s. FirstFault s last.fault c.args.body.now) same c.in-None.ensures.fault)
    (subst (λ s. last.template ≡ message_meant s c.args.body.now) same c.in-None.ensures.template)
    (reprinted (ap (λ s. refused_line c.args.item (of_fault_in s last.template last.fault)) same) c.put_fault.ensures)
