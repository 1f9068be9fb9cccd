use Rattle.std.proofs.Common.{drop, length}
use Rattle.printers.specs.Prints.{Prints}
use Rattle.flat_rows.proofs.MembersFit.{AreFit}
use Rattle.json_fields.proofs.MembersShown.{Goes}
use Rattle.json_fields.proofs.kinds.+kind.Given as goal

abbrev pub invariant-put_members-loop-member : goal.invariant-put_members-loop-member
invariant-put_members-loop-member g l =
    record {
      fit : AreFit (length l.bytes) l.end (drop l.member-index l.fn.members);
      goes : Goes l.order l.fn.members l.bytes (Prints g.O.Sink.state l.initial.printer l.printer)
          l.later l.end (drop l.member-index l.fn.members);
    }
