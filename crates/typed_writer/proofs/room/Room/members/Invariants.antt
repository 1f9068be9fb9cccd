use Rattle.std.proofs.Common.{◌≡◌, ◌+◌, drop, length}
use Rattle.sbe_types.specs.Places.{members_end}
use Rattle.sbe_wire.specs.Canonical.{named_bytes}
use Rattle.sbe_wire.specs.HeadNumbers.{number_of_name}
use Rattle.typed_writer.specs.Counted.{HaveRoomFor}
use Rattle.kind_bytes.specs.Members.{followed_by}
use Rattle.typed_writer.specs.Ready.{MembersStand}
use Rattle.typed_writer.proofs.room.Room.members.Given as goal

abbrev pub invariant-loop-member : goal.invariant-loop-member
invariant-loop-member l = record {
  ends : members_end l.end (drop l.member-index l.fn.members) ≡ members_end 0 l.fn.members;
  stand : MembersStand l.end (drop l.member-index l.fn.members);
  hold : HaveRoomFor (number_of_name l.fn.numbers) (drop l.member-index l.fn.members);
  bytes : followed_by l.self.bytes (named_bytes l.fn.order (number_of_name l.fn.numbers) l.end (drop l.member-index l.fn.members)) ≡ followed_by l.fn.self.bytes (named_bytes l.fn.order (number_of_name l.fn.numbers) 0 l.fn.members);
  long : length l.self.bytes ≡ length l.fn.self.bytes + l.end;
  limit : l.self.limit ≡ l.fn.self.limit;
}
