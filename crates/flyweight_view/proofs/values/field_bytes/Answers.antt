use Rattle.std.proofs.Common.{◌≡◌, true, false, ap, ◌∙◌, sym, subst, rules}
use Rattle.std.specs.Prelude.{Some}
use Rattle.std.specs.Option.{option_map}
use Rattle.sbe_types.specs.declared.schema.Field.{Field}
use Rattle.flyweight_view.specs.ShownIn.{IsShownIn}
use Rattle.flyweight_view.proofs.SlotsTold.{slot_value}
use Rattle.flyweight_view.proofs.values.field_bytes.Goals as goal

pub returns-then-not-slot-clause-absent : goal.returns-then-not-slot-clause-absent
returns-then-not-slot-clause-absent c =
    let value = slot_value c.args.span.now c.args.plan.now c.requires.seen c.args.i c.slot_of-slot.result c.slot_of-slot.ensures in
    let dead : c.slot_of-slot.result.alive ≡ false = search rules in
    value.1 ∙ ap Some (value.2.dead dead)

pub returns-clause-kind : goal.returns-clause-kind
returns-clause-kind c =
    ap (option_map (λ (f : Field). f.kind)) c.slot_of-slot.ensures.there ∙ ap Some (sym c.slot_of-slot.ensures.kind)

pub returns-clause-order : goal.returns-clause-order
returns-clause-order c = c.slot_of-slot.ensures.order

pub returns-clause-shows : goal.returns-clause-shows
returns-clause-shows c =
    let value = slot_value c.args.span.now c.args.plan.now c.requires.seen c.args.i c.slot_of-slot.result c.slot_of-slot.ensures in
    let alive : c.slot_of-slot.result.alive ≡ true = search rules in
    subst (IsShownIn (record { order = c.args.span.now.mode.order; kind = c.slot_of-slot.result.kind; bytes = c.slot_of-slot.result.bytes })) (sym value.1) (c.args.span.now.mode.known, value.2.shows alive)
