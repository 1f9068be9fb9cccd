use Rattle.std.proofs.Common.{sym, ap, ◌∙◌, arith}
use Rattle.sbe_types.specs.declared.kind.Kind.{Comp}
use Rattle.version_laws.specs.Same.{same_kind}
use Rattle.version_project.specs.Pairwise.{is_member}
use Rattle.version_project.proofs.Alike.{unlike_long, alike_goes, alike_stops, alike_ends, composites_alike}
use Rattle.version_project.proofs.differ.kinds.+same_kinds.Goals as goal

pub are_same_members-returns-then-len : goal.are_same_members-returns-then-len
are_same_members-returns-then-len t c =
    unlike_long (is_member c.args.more) c.args.old.now c.args.new.now (λ same. c.if-len.true (c.len.ensures ∙ same ∙ sym c.len-2.ensures))

pub are_same_members-returns-then-not-is_same_member : goal.are_same_members-returns-then-not-is_same_member
are_same_members-returns-then-not-is_same_member t c =
    alike_stops (is_member c.args.more) c.args.old.now c.args.new.now c.loop-i.i _ _ _ c.at.ensures c.at-in-loop-i.ensures c.is_same_member.ensures c.if-not-is_same_member.true c.loop-i.invariant

pub are_same_members-loop-i-preserved : goal.are_same_members-loop-i-preserved
are_same_members-loop-i-preserved t c =
    alike_goes (is_member c.args.more) c.args.old.now c.args.new.now c.loop-i.i _ _ _ c.at.ensures c.at-in-loop-i.ensures c.is_same_member.ensures c.if-not-is_same_member.false c.loop-i.invariant

pub are_same_members-returns : goal.are_same_members-returns
are_same_members-returns t c =
    alike_ends (is_member c.args.more) c.args.old.now c.args.new.now c.loop-i.i (omega arith) (omega arith) c.loop-i.invariant

pub is_same_kind-returns-in-Comp-new : goal.is_same_kind-returns-in-Comp-new
is_same_kind-returns-in-Comp-new t c =
    c.are_same_members.ensures ∙ sym (composites_alike c.args.more c.in-Comp.members c.in-Comp-new.others)
    ∙ ap (λ k. same_kind c.args.more k (Comp c.in-Comp-new.others)) (sym c.in-Comp.is) ∙ ap (same_kind c.args.more c.args.old.now) (sym c.in-Comp-new.is)
