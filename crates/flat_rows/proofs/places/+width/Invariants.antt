use Rattle.std.proofs.Common.{◌≡◌, drop}
use Rattle.sbe_types.specs.declared.kind.Kind.{Comp}
use Rattle.sbe_types.specs.Places.{members_end, width}
use Rattle.schema_facts.proofs.KindLists.{NarrowList}
use Rattle.flat_rows.proofs.places.+width.Given as goal

abbrev pub invariant-end_of-loop-member : goal.invariant-end_of-loop-member
invariant-end_of-loop-member l = record {
  ends : members_end l.end (drop l.member-index l.fn.members) ≡ width (Comp l.fn.members);
  narrow : NarrowList l.end (drop l.member-index l.fn.members);
}
