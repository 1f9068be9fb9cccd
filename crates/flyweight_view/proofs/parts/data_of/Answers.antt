use Rattle.std.proofs.Common.{◌≡◌, ◌<◌, ℕ, length, drop, List, Option, sym, ap, ◌∙◌, arith}
use Rattle.std.specs.Prelude.{map}
use Rattle.std.specs.Option.{option_map}
use Rattle.sbe_types.specs.declared.message.Block.{out-Block}
use Rattle.flyweight_view.specs.inner.Planned.{block_of, planned_block}
use Rattle.flyweight_view.specs.TypedBlocks.{bytes_in}
use Rattle.flyweight_view.proofs.TailsSeen.{all_parts, part_there, drop_on, more_left}
use Rattle.flyweight_view.proofs.parts.data_of.Goals as goal

pub next_part-passed-requires : goal.next_part-passed-requires
next_part-passed-requires c =
    let s = c.args.span.now in
    let p = c.args.plan.now in
    let all : List (Option (List ℕ)) = map bytes_in (out-Block (block_of (planned_block s p))).parts in
    let below : c.loop.counter < length all = omega (arith, all_parts s p c.requires.seen, c.loop-test.true, c.requires.part) in
    more_left all c.loop.parts c.loop.counter c.loop.invariant.left below

pub loop-preserved : goal.loop-preserved
loop-preserved c =
    let s = c.args.span.now in
    let p = c.args.plan.now in
    let all : List (Option (List ℕ)) = map bytes_in (out-Block (block_of (planned_block s p))).parts in
    record {
      left = drop_on all c.loop.counter (option_map (λ b. b.now) c.next_part-passed.result) c.next_part-passed.new.self (sym c.loop.invariant.left ∙ c.next_part-passed.ensures);
    }

pub next_part-requires : goal.next_part-requires
next_part-requires c =
    let s = c.args.span.now in
    let p = c.args.plan.now in
    let all : List (Option (List ℕ)) = map bytes_in (out-Block (block_of (planned_block s p))).parts in
    let below : c.loop.counter < length all = omega (arith, all_parts s p c.requires.seen, c.loop.auto.counter-end, c.requires.part) in
    more_left all c.loop.parts c.loop.counter c.loop.invariant.left below

pub returns : goal.returns
returns c =
    let s = c.args.span.now in
    let p = c.args.plan.now in
    let vs = (out-Block (block_of (planned_block s p))).parts in
    let same : c.args.i ≡ c.loop.counter = omega (arith, c.loop.auto.counter-end, c.loop-test.false) in
    part_there vs c.args.i (option_map (λ b. b.now) c.next_part.result) c.next_part.new.self (ap (λ k. drop k (map bytes_in vs)) same ∙ sym c.loop.invariant.left ∙ c.next_part.ensures)
