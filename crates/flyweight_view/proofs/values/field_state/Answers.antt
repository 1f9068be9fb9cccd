use Rattle.std.proofs.Common.{◌≡◌, true, false, ap, rules}
use Rattle.field_values.specs.Reports.{state_of}
use Rattle.flyweight_view.proofs.SlotsTold.{slot_value, shows_wide, told_of}
use Rattle.flyweight_view.proofs.values.field_state.Goals as goal

pub returns-then-not-slot : goal.returns-then-not-slot
returns-then-not-slot c =
    let value = slot_value c.args.span.now c.args.plan.now c.requires.seen c.args.i c.slot_of-slot.result c.slot_of-slot.ensures in
    let dead : c.slot_of-slot.result.alive ≡ false = search rules in
    told_of state_of c.args.span.now c.args.plan.now c.args.i c.slot_of-slot.result _ value (ap state_of (value.2.dead dead))

pub state_in-requires-clause-ready : goal.state_in-requires-clause-ready
state_in-requires-clause-ready c = c.slot_of-slot.ensures.order

pub state_in-requires-clause-wide : goal.state_in-requires-clause-wide
state_in-requires-clause-wide c =
    let value = slot_value c.args.span.now c.args.plan.now c.requires.seen c.args.i c.slot_of-slot.result c.slot_of-slot.ensures in
    let alive : c.slot_of-slot.result.alive ≡ true = search rules in
    shows_wide c.args.span.now.mode.order c.args.span.now.mode.known c.slot_of-slot.result.kind.now value.0 c.slot_of-slot.result.bytes.now (value.2.shows alive)

pub returns : goal.returns
returns c =
    let value = slot_value c.args.span.now c.args.plan.now c.requires.seen c.args.i c.slot_of-slot.result c.slot_of-slot.ensures in
    let alive : c.slot_of-slot.result.alive ≡ true = search rules in
    told_of state_of c.args.span.now c.args.plan.now c.args.i c.slot_of-slot.result _ value (c.state_in.ensures c.args.span.now.mode.known value.0 (value.2.shows alive))
