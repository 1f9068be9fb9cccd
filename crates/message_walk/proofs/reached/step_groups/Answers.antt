use Rattle.std.proofs.Common.{◌≡◌, drop, ap, ◌∙◌, sym, arith}
use Rattle.flyweight_view.proofs.TailsSeen.{drop_on, more_left}
use Rattle.message_walk.proofs.reached.step_groups.Goals as goal

pub next_group-passed-requires : goal.next_group-passed-requires
next_group-passed-requires c = more_left c.args.groups.now c.loop.groups c.loop.counter c.loop.invariant.left (omega (arith, c.loop-test.true, c.requires))

pub loop-preserved : goal.loop-preserved
loop-preserved c = record {
  left = drop_on c.args.groups.now c.loop.counter c.next_group-passed.result c.next_group-passed.new.self (sym c.loop.invariant.left ∙ c.next_group-passed.ensures);
}

pub returns : goal.returns
returns c =
    let all : c.loop.counter ≡ c.args.count = omega (arith, c.loop.auto.counter-end, c.loop-test.false) in
    c.loop.invariant.left ∙ ap (λ n. drop n c.args.groups.now) all
