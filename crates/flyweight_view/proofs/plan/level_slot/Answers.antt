use Rattle.std.proofs.Common.{refl, sym, ◌∙◌, subst}
use Rattle.sbe_types.specs.declared.schema.Level.{out-Level}
use Rattle.sbe_types.specs.Places.{is_const}
use Rattle.schema_facts.specs.InOrder.{IsKindInOrder}
use Rattle.flyweight_view.specs.inner.Planned.{bytes_of}
use Rattle.flyweight_view.proofs.SlotsTold.{slot_bytes}
use Rattle.flyweight_view.proofs.plan.level_slot.Goals as goal

pub row_slot-requires-clause-row : goal.row_slot-requires-clause-row
row_slot-requires-clause-row c = c.field_row-row.ensures.row c.at-field.result.now c.at-field.ensures

pub returns : goal.returns
returns c =
    let f = c.at-field.result.now in
    let row = c.field_row-row.ensures.row f c.at-field.ensures in
    record {
      field = f;
      there = c.at-field.ensures;
      kind = c.row_slot.ensures.kind;
      order = subst IsKindInOrder (sym c.row_slot.ensures.kind) row.ready.order;
      alive = c.row_slot.ensures.alive;
      bytes = λ a. c.row_slot.ensures.bytes a ∙ slot_bytes (is_const f.kind) (out-Level c.args.level.now).fields c.args.i c.field_row-row.result.now.place f (bytes_of c.args.span.now) refl c.at-field.ensures (c.field_row-row.ensures.place f c.at-field.ensures);
    }
