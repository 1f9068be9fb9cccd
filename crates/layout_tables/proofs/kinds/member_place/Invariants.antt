use Rattle.std.proofs.Common.{◌≡◌, drop, take}
use Rattle.sbe_types.specs.Places.{members_end}
use Rattle.schema_facts.proofs.KindLists.{NarrowList}
use Rattle.layout_tables.proofs.kinds.member_place.Given as goal

abbrev pub invariant-loop-member : goal.invariant-loop-member
invariant-loop-member l = record {
  ends : members_end l.end (drop l.member-index (take l.fn.i l.fn.members)) ≡ members_end 0 (take l.fn.i l.fn.members);
  narrow : NarrowList l.end (drop l.member-index (take l.fn.i l.fn.members));
}
