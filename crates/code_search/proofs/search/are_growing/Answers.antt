use Rattle.std.proofs.Common.{arith, rules, ◌<ℤ◌}
use Rattle.code_search.proofs.Searched.{before_grows, last_alone}
use Rattle.code_search.proofs.search.are_growing.Goals as goal

pub loop-at-init : goal.loop-at-init
loop-at-init c = record { within = omega arith; grow = last_alone c.args.codes.now }

pub loop-at-preserved : goal.loop-at-preserved
loop-at-preserved c =
    let a = c.index-codes-at.result in
    let b = c.index-codes-at-in-loop-at.result in
    let less : a.number <ℤ b.number = search rules in
    record {
      within = omega (arith, c.loop-at.invariant.within);
      grow = before_grows c.args.codes.now c.loop-at.at a b c.loop-at-test.true c.loop-at.invariant.within c.index-codes-at.is c.index-codes-at-in-loop-at.is less c.loop-at.invariant.grow;
    }
