use Rattle.std.proofs.Common.{drop, length}
use Rattle.flat_rows.proofs.MembersFit.{AreFit}
use Rattle.tree_codec.proofs.MembersShown.{Goes}
use Rattle.tree_codec.proofs.values.+kind.Given as goal

abbrev pub invariant-member_values-loop-member : goal.invariant-member_values-loop-member
invariant-member_values-loop-member l =
    record {
      fit : AreFit (length l.bytes) l.end (drop l.member-index l.fn.members);
      goes : Goes l.order l.fn.members l.bytes l.values l.end (drop l.member-index l.fn.members);
    }
