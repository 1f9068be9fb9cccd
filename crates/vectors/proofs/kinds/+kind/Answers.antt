use Rattle.vectors.specs.Values.{member_drawn}
use Rattle.vectors.proofs.Gathering.{each_go, each_end}
use Rattle.vectors.proofs.Draws.{if_ok}
use Rattle.vectors.proofs.KindParts.{leaf_kind, enum_kind, set_kind, const_kind, comp_kind}
use Rattle.vectors.proofs.kinds.+kind.Goals as goal

pub draw_kind-returns-in-Leaf : goal.draw_kind-returns-in-Leaf
draw_kind-returns-in-Leaf t c = if_ok _ _ c.draw_leaf.result (λ v h. leaf_kind c.args.kind.now _ c.args.words.now _ c.in-Leaf.is h) c.draw_leaf.ensures

pub draw_kind-returns-in-Enum : goal.draw_kind-returns-in-Enum
draw_kind-returns-in-Enum t c = enum_kind c.args.kind.now _ _ c.args.words.now _ c.in-Enum.is c.draw_enum.ensures

pub draw_kind-returns-in-Set : goal.draw_kind-returns-in-Set
draw_kind-returns-in-Set t c = set_kind c.args.kind.now _ _ c.args.words.now _ _ c.in-Set.is c.draw_bits.ensures

pub draw_kind-returns-in_ok-draw_members-in-Comp : goal.draw_kind-returns-in_ok-draw_members-in-Comp
draw_kind-returns-in_ok-draw_members-in-Comp t c = comp_kind c.args.kind.now _ c.args.words.now _ _ c.in-Comp.is c.in_ok-draw_members-in-Comp.ensures

pub draw_kind-returns-in-Const : goal.draw_kind-returns-in-Const
draw_kind-returns-in-Const t c = const_kind c.args.kind.now _ c.args.words.now c.in-Const.is

pub draw_members-loop-member-preserved : goal.draw_members-loop-member-preserved
draw_members-loop-member-preserved t c =
    rw c.in_ok-push.ensures.ok (each_go member_drawn c.args.members.now _ c.loop-member.member-index c.member-item.result _ _ _ _ _ c.as_slice-member-items.ensures c.loop-member-test.true c.member-item.is c.in_ok-draw_kind.ensures c.loop-member.invariant)

pub draw_members-returns : goal.draw_members-returns
draw_members-returns t c = each_end member_drawn c.args.members.now _ c.loop-member.member-index _ _ _ c.as_slice-member-items.ensures c.loop-member-test.false c.loop-member.invariant
