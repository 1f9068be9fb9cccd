use Rattle.std.proofs.Common.{refl, arith}
use Rattle.sbe_types.proofs.ListSame.{more_same, whole_same}
use Rattle.version_copies.proofs.levels.are_same_parts.Goals as goal

pub loop-i-preserved : goal.loop-i-preserved
loop-i-preserved c =
    more_same c.args.a.now c.args.b.now c.loop-i.i c.at.result.now c.at-in-loop-i.result.now c.at.ensures c.at-in-loop-i.ensures
    (c.is_same_part.ensures.0 c.if-not-is_same_part.false) c.loop-i.invariant

pub returns : goal.returns
returns c = (λ _. whole_same c.args.a.now c.args.b.now c.loop-i.i (omega arith) (omega arith) c.loop-i.invariant, λ _. refl)
