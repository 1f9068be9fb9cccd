use Rattle.std.proofs.Common.{◌≡◌, drop}
use Rattle.sbe_wire.specs.Named.{spot_named}
use Rattle.schema_facts.proofs.KindLists.{NarrowList}
use Rattle.layout_compile.proofs.tables.kind_of.Given as goal

abbrev pub invariant-loop-member : goal.invariant-loop-member
invariant-loop-member l = record {
  named : spot_named l.end l.fn.name (drop l.member-index l.fn.members) ≡ spot_named 0 l.fn.name l.fn.members;
  narrow : NarrowList l.end (drop l.member-index l.fn.members);
}
