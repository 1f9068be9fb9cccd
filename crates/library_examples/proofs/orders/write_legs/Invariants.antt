use Rattle.std.proofs.Common.{◌≡◌, ◌-◌, ◌∷◌, [], drop, length, map}
use Rattle.sbe_wire.specs.Canonical.{all_bytes}
use Rattle.schema_facts.specs.Levels.{root_of}
use Rattle.typed_writer.specs.declared.stack.Frame.TheVariants.{Entries, Tail}
use Rattle.kind_bytes.specs.Members.{followed_by}
use Rattle.typed_writer.specs.States.{AppendsEntries}
use Rattle.library_examples.specs.Orders.{LegsHaveRoom, leg_block, leg_bytes, legs_misfit, legs_of}
use Rattle.sbe_types.specs.declared.schema.Group.{out-Group}
use Rattle.tree_codec.proofs.PutGroups.{EntriesAt}
use Rattle.library_examples.proofs.orders.write_legs.Given as goal

abbrev pub invariant-loop-quantity : goal.invariant-loop-quantity
invariant-loop-quantity l =
    record {
      same : l.entries.buf.ghost_name ≡ l.initial.entries.buf.ghost_name;
      layout : l.entries.layout.now ≡ l.layout;
      state : AppendsEntries l.layout l.entries.buf.now;
      at : l.entries.buf.now.frames ≡ Entries (legs_of l.layout) (length l.legs - l.quantity-index) ∷ Tail (root_of l.layout 0) 1 ∷ [];
      left : followed_by l.entries.buf.now.bytes (all_bytes (leg_bytes l.layout) (drop l.quantity-index l.legs)) ≡ followed_by l.initial.entries.buf.now.bytes (all_bytes (leg_bytes l.layout) l.legs);
      walk : (has : LegsHaveRoom l.layout l.legs l.fn.tail.buf.now) → EntriesAt l.layout (legs_of l.layout) (out-Group has.group).level (map leg_block l.legs) l.quantity-index l.initial.entries.buf.now l.entries.buf.now;
      fits : legs_misfit l.layout (drop l.quantity-index l.legs) ≡ legs_misfit l.layout l.legs;
    }
