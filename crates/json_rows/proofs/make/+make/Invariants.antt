use Rattle.std.proofs.Common.{false, drop}
use Rattle.sbe_types.specs.declared.kind.Kind.{Comp}
use Rattle.sbe_types.specs.Places.{width}
use Rattle.json_rows.proofs.Growing.{GoesOn}
use Rattle.json_rows.proofs.Listed.{listed_pieces}
use Rattle.flat_rows.proofs.MembersFit.{AreFit}
use Rattle.json_rows.proofs.make.+make.Given as goal

abbrev pub invariant-add_members-loop-member : goal.invariant-add_members-loop-member
invariant-add_members-loop-member l = record {
  fit : AreFit (width (Comp l.fn.members)) l.end (drop l.member-index l.fn.members);
  goes : GoesOn l.initial.table l.table (listed_pieces l.later l.at l.end (drop l.member-index l.fn.members)) (listed_pieces false l.at 0 l.fn.members);
}
