use Rattle.std.proofs.Common.{◌≡◌, ◌+◌, ◌*◌, None, drop, take, length}
use Rattle.sbe_types.specs.declared.kind.Kind.{Comp}
use Rattle.sbe_types.specs.Places.{members_end}
use Rattle.schema_facts.specs.InOrder.{height}
use Rattle.kind_bytes.specs.Misfits.{members_misfit}
use Rattle.kind_bytes.specs.Members.{followed_by, members_bytes}
use Rattle.kind_bytes.proofs.MemberBytes.{Stand}
use Rattle.kind_bytes.proofs.put.+kind.Given as goal

abbrev pub invariant-put_members-loop-i : goal.invariant-put_members-loop-i
invariant-put_members-loop-i l =
    record {
      stand : Stand l.end (drop l.i l.members);
      ends : members_end l.end (drop l.i l.members) ≡ length l.out;
      fits : members_misfit l.i (drop l.i l.members) (drop l.i l.values) ≡ None;
      bytes : followed_by (take l.end l.out) (members_bytes l.order l.end (drop l.i l.members) (drop l.i l.values)) ≡ members_bytes l.order 0 l.members l.values;
    }

abbrev pub decreases-put_kind : goal.decreases-put_kind
decreases-put_kind l = 4 * height l.kind.now + 2

abbrev pub decreases-put_composite : goal.decreases-put_composite
decreases-put_composite l = 4 * height (Comp l.members.now) + 1

abbrev pub decreases-put_members : goal.decreases-put_members
decreases-put_members l = 4 * height (Comp l.members.now)

abbrev pub decreases-put_member : goal.decreases-put_member
decreases-put_member l = 4 * height l.member.now.kind + 3
