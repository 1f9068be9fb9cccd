use Rattle.std.proofs.Common.{arith}
use Rattle.bridge_plan.specs.Covers.{data_uncovered}
use Rattle.bridge_cover.proofs.Walked.{part_passed}
use Rattle.bridge_cover.proofs.walk.data_uncovered.Goals as goal

pub loop-part-preserved : goal.loop-part-preserved
loop-part-preserved c = λ m s before sees.
    let p = c.loop-part.invariant m s before sees in
    part_passed m s c.loop-part.here c.args.parts.now c.loop-part.part-index (data_uncovered m s before c.args.parts.now) p
    c.part-item.result c.pass.new.self (omega arith) c.part-item.is
    c.covers_data.result (c.covers_data.ensures m s p.earlier p.sees) c.if-not-covers_data.false (c.in_ok-pass.ensures m s p.earlier p.sees)
