use Rattle.std.proofs.Common.{◌≡◌, ◌≤◌, drop, length}
use Rattle.sbe_types.specs.declared.kind.Kind.{Comp}
use Rattle.sbe_types.specs.declared.limits.TheConstants.{MEMBER_LIMIT}
use Rattle.schema_facts.specs.InOrder.{height}
use Rattle.body_walk.specs.inner.Outcomes.{piece}
use Rattle.body_walk.specs.inner.Kinds.{members_check}
use Rattle.body_walk.proofs.MembersReady.{AreReady}
use Rattle.body_walk.proofs.kinds.+kind.Given as goal

abbrev pub invariant-judge_members-loop-member : goal.invariant-judge_members-loop-member
invariant-judge_members-loop-member l =
    record {
      count : l.i ≡ l.member-index;
      few : length l.fn.members ≤ MEMBER_LIMIT;
      ready : AreReady (length l.bytes) (height (Comp l.fn.members)) l.end (drop l.member-index l.fn.members);
      told : members_check l.mode (piece l.at l.bytes) l.end l.i (drop l.member-index l.fn.members) ≡ members_check l.mode (piece l.at l.bytes) 0 0 l.fn.members;
    }
