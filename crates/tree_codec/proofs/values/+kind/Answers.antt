use Rattle.std.proofs.Common.{◌≡◌, ◌+◌, ◌∙◌, [], arith, sym, ap, subst, length, drop, get_or}
use Rattle.std.proofs.lemmas.List.{drop_all}
use Rattle.sbe_types.specs.Places.{end_past}
use Rattle.tree_codec.proofs.FromBytes.{enum_is, set_is, value_as}
use Rattle.flat_rows.proofs.MembersFit.{AreFit, members_fit, fit_first}
use Rattle.tree_codec.proofs.MembersShown.{Goes, goes_first, goes_next, goes_over}
use Rattle.tree_codec.proofs.Steps.{there}
use Rattle.tree_codec.proofs.values.+kind.Goals as goal

pub member_values-loop-member-init : goal.member_values-loop-member-init
member_values-loop-member-init t c =
    record {
      fit = members_fit c.args.members.now _ c.requires.ready c.requires.wide;
      goes = subst (λ vs. Goes c.args.order c.args.members.now c.args.bytes.now vs 0 c.args.members.now) (sym c.new-values.ensures) goes_first;
    }

pub member_values-loop-member-preserved : goal.member_values-loop-member-preserved
member_values-loop-member-preserved t c =
    let all = c.args.members.now in
    let bytes = c.args.bytes.now in
    let i = c.loop-member.member-index in
    let m = c.member-item.result in
    let so_far = c.loop-member.invariant in
    let done = c.loop-member.values in
    let next : drop i all ≡ _ = there all i m (omega (arith, ap length c.as_slice-member-items.ensures)) (c.member-item.is ∙ ap (λ xs. get_or xs i m) c.as_slice-member-items.ensures) in
    let fit = fit_first (length bytes) c.loop-member.end m (drop (i + 1) all) (drop i all) next so_far.fit in
    let here = subst (Goes c.args.order all bytes done c.loop-member.end) next so_far.goes in
    let on = goes_next c.args.order all bytes done c.loop-member.end m (drop (i + 1) all) c.member_bytes-part.result.now c.in_ok-value_of.field-0 here c.member_bytes-part.ensures c.in_ok-value_of.ensures in
    let pushed = subst (λ vs. Goes c.args.order all bytes vs (end_past c.loop-member.end m.offset m.kind) (drop (i + 1) all)) (sym c.in_ok-push.ensures.ok) on in
    record {
      fit = subst (λ e. AreFit (length bytes) e (drop (i + 1) all)) (sym c.end_after-after.ensures) fit.1;
      goes = subst (λ e. Goes c.args.order all bytes c.push.new.self e (drop (i + 1) all)) (sym c.end_after-after.ensures) pushed;
    }

pub member_values-returns : goal.member_values-returns
member_values-returns t c =
    let all = c.args.members.now in
    let done : drop c.loop-member.member-index all ≡ [] = drop_all c.loop-member.member-index all (omega (arith, ap length c.as_slice-member-items.ensures)) in
    let over = subst (Goes c.args.order all c.args.bytes.now c.loop-member.values c.loop-member.end) done c.loop-member.invariant.goes in
    goes_over c.args.order all c.args.bytes.now c.loop-member.values c.loop-member.end over

pub value_of-returns-in-Enum : goal.value_of-returns-in-Enum
value_of-returns-in-Enum t c =
    value_as c.args.order c.args.kind.now _ c.args.bytes.now _ c.in-Enum.is (enum_is c.args.order c.in-Enum.leaf c.in-Enum.field-1 c.args.bytes.now _ c.enum_value.ensures)

pub value_of-returns-in-Set : goal.value_of-returns-in-Set
value_of-returns-in-Set t c =
    value_as c.args.order c.args.kind.now _ c.args.bytes.now _ c.in-Set.is (set_is c.args.order c.in-Set.prim c.in-Set.field-1 c.args.bytes.now _ c.set_number.ensures)
