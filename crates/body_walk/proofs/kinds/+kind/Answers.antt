use Rattle.std.proofs.Common.{◌≡◌, ◌+◌, ◌-◌, false, cond, take, drop, Ok, refl, sym, ap, subst, ◌∙◌, arith, rules}
use Rattle.sbe_types.specs.Places.{width, is_const, begin_of, end_past}
use Rattle.body_walk.specs.inner.Outcomes.{piece}
use Rattle.body_walk.specs.inner.Kinds.{kind_check}
use Rattle.body_walk.proofs.AtOnce.{part_looks}
use Rattle.body_walk.proofs.KindTold.{leaf_is, enum_is, set_is, const_is, comp_is, const_part}
use Rattle.body_walk.proofs.MembersReady.{members_few, members_ready}
use Rattle.body_walk.proofs.kinds.+kind.Goals as goal

pub judge_kind-returns-in-Leaf-clause-told : goal.judge_kind-returns-in-Leaf-clause-told
judge_kind-returns-in-Leaf-clause-told t c =
    c.judge_leaf.ensures.told
    ∙ sym (ap (λ k. kind_check c.args.mode k (piece c.args.at c.args.bytes.now)) c.in-Leaf.is ∙ leaf_is c.args.mode c.in-Leaf.leaf (piece c.args.at c.args.bytes.now))

pub judge_kind-returns-in-Enum-clause-told : goal.judge_kind-returns-in-Enum-clause-told
judge_kind-returns-in-Enum-clause-told t c =
    c.judge_enum.ensures.told
    ∙ sym (ap (λ k. kind_check c.args.mode k (piece c.args.at c.args.bytes.now)) c.in-Enum.is ∙ enum_is c.args.mode c.in-Enum.leaf c.in-Enum.values (piece c.args.at c.args.bytes.now))

pub judge_kind-returns-in-Set-clause-told : goal.judge_kind-returns-in-Set-clause-told
judge_kind-returns-in-Set-clause-told t c =
    c.judge_set.ensures.told
    ∙ sym (ap (λ k. kind_check c.args.mode k (piece c.args.at c.args.bytes.now)) c.in-Set.is ∙ set_is c.args.mode c.in-Set.prim c.in-Set.choices (piece c.args.at c.args.bytes.now))

pub judge_kind-returns-in-Comp-clause-told : goal.judge_kind-returns-in-Comp-clause-told
judge_kind-returns-in-Comp-clause-told t c =
    c.judge_members.ensures.told
    ∙ sym (ap (λ k. kind_check c.args.mode k (piece c.args.at c.args.bytes.now)) c.in-Comp.is ∙ comp_is c.args.mode c.in-Comp.members (piece c.args.at c.args.bytes.now))

pub judge_kind-returns-in-Const-clause-told : goal.judge_kind-returns-in-Const-clause-told
judge_kind-returns-in-Const-clause-told t c =
    sym (ap (λ k. kind_check c.args.mode k (piece c.args.at c.args.bytes.now)) c.in-Const.is ∙ const_is c.args.mode c.in-Const.field-0 (piece c.args.at c.args.bytes.now))

pub judge_member-returns-in-Const-clause-told : goal.judge_member-returns-in-Const-clause-told
judge_member-returns-in-Const-clause-told t c = sym (const_part c.args.mode c.args.member.now.kind c.in-Const.field-0 c.args.i _ c.in-Const.is)

pub judge_member-returns-then-shows_at_once-clause-told : goal.judge_member-returns-then-shows_at_once-clause-told
judge_member-returns-then-shows_at_once-clause-told t c =
    let m = c.args.member.now in
    let e = c.args.end in
    let moves : is_const m.kind ≡ false = search rules in
    let past : end_past e m.offset m.kind ≡ begin_of e m.offset + width m.kind = ap (λ t. cond t e (begin_of e m.offset + width m.kind)) moves in
    let wide : c.args.after - begin_of e m.offset ≡ width m.kind = omega (arith, c.requires.after, past) in
    let begins : c.begin_of-begin.result ≡ begin_of e m.offset = c.begin_of-begin.ensures in
    sym (part_looks c.args.mode m.kind c.args.i (c.args.at + begin_of e m.offset) (take (width m.kind) (drop (begin_of e m.offset) c.args.bytes.now))
    (subst (λ n. kind_check c.args.mode m.kind (piece (c.args.at + begin_of e m.offset) (take n (drop (begin_of e m.offset) c.args.bytes.now))) ≡ Ok tt) wide
    (rw begins at (c.if-shows_at_once.ensures refl (c.args.at + begin_of e m.offset)))))

pub judge_members-loop-member-init : goal.judge_members-loop-member-init
judge_members-loop-member-init t c = record {
  count = refl;
  few = members_few c.args.members.now c.requires.ready;
  ready = members_ready c.args.members.now _ c.requires.ready c.requires.wide;
  told = refl;
}
