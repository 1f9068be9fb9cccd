-- Where a field of a block is, and what its bytes show.
use Rattle.std.specs.Prelude.{◌≡◌, ℕ, true, false, Some, List, slice_get}
use Rattle.sbe_types.specs.declared.message.Value.{Value}
use Rattle.sbe_types.specs.declared.message.Value.TheVariants as value
use Rattle.sbe_types.specs.declared.schema.Field.{Field}
use Rattle.sbe_types.specs.Places.{width, field_place, bytes_at}
use Rattle.sbe_types.specs.Shows.{Shows}
use Rattle.sbe_wire.specs.Versions.{is_alive}
use Rattle.schema_facts.specs.InOrder.{IsKindInOrder}
use Rattle.sbe_wire.specs.declared.mode.Mode.{Mode}
use Rattle.flyweight_view.specs.declared.plan.Slot.{Slot}
use Rattle.flyweight_view.specs.declared.plan.Span.{Span}
use Rattle.flyweight_view.specs.inner.Planned.{bytes_of}

-- the slot is that of field i: if the field is alive, it has the bytes at its offset
pub record SlotIs (s : Span) (fields : List Field) (i : ℕ) (slot : Slot) : Type 0 where
  pub field : Field
  pub there : slice_get fields i ≡ Some field
  pub kind : slot.kind.now ≡ field.kind
  pub order : IsKindInOrder slot.kind.now
  pub alive : slot.alive ≡ is_alive s.mode.version field.since
  pub bytes : slot.alive ≡ true → slot.bytes.now ≡ bytes_at (field_place 0 fields i) (width field.kind) (bytes_of s)

-- the bytes of a field that is alive show the value; one that isn't alive is absent
pub record SlotShows (mode : Mode) (slot : Slot) (v : Value) : Type 0 where
  pub shows : slot.alive ≡ true → Shows mode.order mode.known slot.kind.now v slot.bytes.now
  pub dead : slot.alive ≡ false → v ≡ value.Absent
