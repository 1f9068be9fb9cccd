use Rattle.std.proofs.Common.{◌+◌, ◌-◌, ◌%◌, ◌∙◌, arith}
use Rattle.raw_walk.proofs.Remembered.{sum_between}
use Rattle.raw_walk.proofs.sums.Sums.sum_to.Goals as goal

pub returns-clause-sum : goal.returns-clause-sum
returns-clause-sum c =
    let first = c.extend-first.result % 64 in
    let end = c.args.to - (c.args.to - first) % 64 in
    c.difference.ensures
    ∙ sum_between c.args.place first end c.args.to (c.sum_of-2.result + c.sum_of-3.result) c.args.held.now c.extend-first.new.self c.in-Some.low c.in-Some-find.high c.extend-first.ensures.sums (omega arith) c.in-Some.ensures.0 c.in-Some-find.ensures.0
    c.in-Some.ensures.1 c.in-Some-find.ensures.1 (omega (arith, c.sum_of-2.ensures, c.sum_of-3.ensures))
