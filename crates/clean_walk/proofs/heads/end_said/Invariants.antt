use Rattle.std.proofs.Common.{◌≡◌, ◌≤◌, length, drop}
use Rattle.sbe_types.specs.Places.{members_end}
use Rattle.sbe_wire.specs.HeadNumbers.{number_of_name}
use Rattle.clean_walk.proofs.Saying.{LeadsNumbers}
use Rattle.clean_walk.proofs.heads.end_said.Given as goal

abbrev pub invariant-loop-member : goal.invariant-loop-member
invariant-loop-member l = record {
  near : l.end ≤ length l.bytes;
  end : members_end l.end (drop l.member-index l.members) ≡ members_end 0 l.members;
  leads : LeadsNumbers l.order (number_of_name l.numbers) l.members l.bytes l.member-index l.end;
}
