use Rattle.std.proofs.Common.{◌≡◌, ◌+◌, ◌-◌, ◌*◌, length, replicate}
use Rattle.sbe_types.specs.Numbers.{prim_width}
use Rattle.sbe_types.specs.Wire.{elements_bytes}
use Rattle.sbe_types.specs.declared.message.Elem.TheVariants.{Null}
use Rattle.kind_bytes.specs.Members.{followed_by}
use Rattle.typed_writer.proofs.room.Room.nulls.Given as goal

abbrev pub invariant-loop : goal.invariant-loop
invariant-loop l = record {
  bytes : followed_by l.self.bytes (elements_bytes l.fn.order l.fn.leaf (replicate (l.fn.leaf.length - l.counter) Null)) ≡ followed_by l.fn.self.bytes (elements_bytes l.fn.order l.fn.leaf (replicate l.fn.leaf.length Null));
  long : length l.self.bytes ≡ length l.fn.self.bytes + prim_width l.fn.leaf.prim * l.counter;
  limit : l.self.limit ≡ l.fn.self.limit;
}
