use Rattle.std.proofs.Common.{◌≡◌, length, refl, ◌∙◌, subst}
use Rattle.sbe_types.specs.declared.kind.Kind.{Comp}
use Rattle.sbe_types.specs.Shows.{Shows}
use Rattle.schema_facts.specs.InOrder.{IsKindInOrder}
use Rattle.flyweight_view.specs.declared.plan.Plan.TheVariants as plan
use Rattle.flyweight_view.proofs.CompositesTold.{composite_alive, composite_field, composite_kind, seen_composite, value_composite}
use Rattle.flyweight_view.proofs.SlotsTold.{slot_value}
use Rattle.flyweight_view.proofs.values.composite_at.Goals as goal

pub members_of-members-requires : goal.members_of-members-requires
members_of-members-requires c =
    let value = slot_value c.args.span.now c.args.plan.now c.requires.seen c.args.i c.slot_of-slot.result c.slot_of-slot.ensures in
    composite_kind c.args.span.now c.args.plan.now c.args.i c.slot_of-slot.result c.slot_of-slot.ensures value c.requires.composite

pub returns-clause-seen : goal.returns-clause-seen
returns-clause-seen c =
    let s = c.args.span.now in
    let slot = c.slot_of-slot.result in
    let value = slot_value s c.args.plan.now c.requires.seen c.args.i slot c.slot_of-slot.ensures in
    let alive = composite_alive s c.args.plan.now c.args.i slot c.slot_of-slot.ensures value c.requires.composite in
    let kind : slot.kind.now ≡ Comp c.members_of-members.result.now = c.members_of-members.ensures in
    seen_composite _ _ value.0 tt refl refl (subst IsKindInOrder kind c.slot_of-slot.ensures.order) (subst (λ k. Shows s.mode.order s.mode.known k value.0 slot.bytes.now) kind (value.2.shows alive))

pub returns-clause-members : goal.returns-clause-members
returns-clause-members c =
    let s = c.args.span.now in
    let slot = c.slot_of-slot.result in
    let value = slot_value s c.args.plan.now c.requires.seen c.args.i slot c.slot_of-slot.ensures in
    let alive = composite_alive s c.args.plan.now c.args.i slot c.slot_of-slot.ensures value c.requires.composite in
    let kind : slot.kind.now ≡ Comp c.members_of-members.result.now = c.members_of-members.ensures in
    composite_field s c.args.plan.now c.args.i slot c.slot_of-slot.ensures value (Comp c.members_of-members.result.now) kind
    ∙ value_composite (record { mode = s.mode; body = slot.bytes; at = 0; size = length slot.bytes.now }) (plan.Members c.members_of-members.result) value.0 tt refl refl (subst IsKindInOrder kind c.slot_of-slot.ensures.order) (subst (λ k. Shows s.mode.order s.mode.known k value.0 slot.bytes.now) kind (value.2.shows alive))
