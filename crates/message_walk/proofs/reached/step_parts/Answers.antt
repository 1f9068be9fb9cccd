use Rattle.std.proofs.Common.{◌≡◌, drop, ap, ◌∙◌, sym, arith}
use Rattle.std.specs.Option.{option_map}
use Rattle.flyweight_view.proofs.TailsSeen.{drop_on, more_left}
use Rattle.message_walk.proofs.reached.step_parts.Goals as goal

pub next_part-passed-requires : goal.next_part-passed-requires
next_part-passed-requires c = more_left c.args.parts.now c.loop.parts c.loop.counter c.loop.invariant.left (omega (arith, c.loop-test.true, c.requires))

pub loop-preserved : goal.loop-preserved
loop-preserved c = record {
  left = drop_on c.args.parts.now c.loop.counter (option_map (λ b. b.now) c.next_part-passed.result) c.next_part-passed.new.self (sym c.loop.invariant.left ∙ c.next_part-passed.ensures);
}

pub returns : goal.returns
returns c =
    let all : c.loop.counter ≡ c.args.count = omega (arith, c.loop.auto.counter-end, c.loop-test.false) in
    c.loop.invariant.left ∙ ap (λ n. drop n c.args.parts.now) all
