use Rattle.std.proofs.Common.{◌≡◌, ◌+◌, ◌-◌, take, drop, ap, arith, length-take, length-drop}
use Rattle.body_walk.proofs.blocks.block_at.Goals as goal

pub returns-clause-lies : goal.returns-clause-lies
returns-clause-lies c =
    let same : c.args.at + c.args.block - c.args.at ≡ c.args.block = omega arith in
    record {
      room = omega arith;
      bytes_are = ap (λ k. take k (drop c.args.at c.args.body.now)) same;
      long = simp (length-take, length-drop) (omega arith);
    }
