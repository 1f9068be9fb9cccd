use Rattle.std.proofs.Common.{◌≡◌, ◌+◌, drop, length}
use Rattle.sbe_types.specs.Places.{fields_end}
use Rattle.kind_bytes.specs.Members.{followed_by}
use Rattle.typed_writer.specs.Empty.{empty_fields}
use Rattle.typed_writer.specs.Ready.{FieldsStand}
use Rattle.typed_writer.proofs.room.Room.fields.Given as goal

abbrev pub invariant-loop-field : goal.invariant-loop-field
invariant-loop-field l = record {
  ends : fields_end l.end (drop l.field-index l.fn.fields) ≡ fields_end 0 l.fn.fields;
  stand : FieldsStand l.end (drop l.field-index l.fn.fields);
  bytes : followed_by l.self.bytes (empty_fields l.fn.order l.end (drop l.field-index l.fn.fields)) ≡ followed_by l.fn.self.bytes (empty_fields l.fn.order 0 l.fn.fields);
  long : length l.self.bytes ≡ length l.fn.self.bytes + l.end;
  limit : l.self.limit ≡ l.fn.self.limit;
}
