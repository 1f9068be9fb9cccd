use Rattle.std.proofs.Common.{◌≡◌, ◌<◌, length, drop, List, Option, sym, ap, ◌∙◌, arith}
use Rattle.sbe_types.specs.declared.message.Block.{out-Block}
use Rattle.flyweight_view.specs.TypedBlocks.{typed_groups, TypedBlock}
use Rattle.flyweight_view.specs.inner.Planned.{block_of, planned_block, groups_of}
use Rattle.flyweight_view.proofs.TailsSeen.{all_groups, group_there, drop_on, more_left}
use Rattle.flyweight_view.proofs.groups.group_of.Goals as goal

pub next_group-passed-requires : goal.next_group-passed-requires
next_group-passed-requires c =
    let s = c.args.span.now in
    let p = c.args.plan.now in
    let all : List (Option (List TypedBlock)) = typed_groups (groups_of p) (out-Block (block_of (planned_block s p))).groups in
    let below : c.loop.counter < length all = omega (arith, all_groups s p c.requires.seen, c.loop-test.true, c.requires.group) in
    more_left all c.loop.groups c.loop.counter c.loop.invariant.left below

pub loop-preserved : goal.loop-preserved
loop-preserved c =
    let s = c.args.span.now in
    let p = c.args.plan.now in
    let all : List (Option (List TypedBlock)) = typed_groups (groups_of p) (out-Block (block_of (planned_block s p))).groups in
    record {
      left = drop_on all c.loop.counter c.next_group-passed.result c.next_group-passed.new.self (sym c.loop.invariant.left ∙ c.next_group-passed.ensures);
    }

pub next_group-requires : goal.next_group-requires
next_group-requires c =
    let s = c.args.span.now in
    let p = c.args.plan.now in
    let all : List (Option (List TypedBlock)) = typed_groups (groups_of p) (out-Block (block_of (planned_block s p))).groups in
    let below : c.loop.counter < length all = omega (arith, all_groups s p c.requires.seen, c.loop.auto.counter-end, c.requires.group) in
    more_left all c.loop.groups c.loop.counter c.loop.invariant.left below

pub returns : goal.returns
returns c =
    let s = c.args.span.now in
    let p = c.args.plan.now in
    let vs = (out-Block (block_of (planned_block s p))).groups in
    let same : c.args.i ≡ c.loop.counter = omega (arith, c.loop.auto.counter-end, c.loop-test.false) in
    group_there (groups_of p) vs c.args.i c.next_group.result c.next_group.new.self (ap (λ k. drop k (typed_groups (groups_of p) vs)) same ∙ sym c.loop.invariant.left ∙ c.next_group.ensures)
