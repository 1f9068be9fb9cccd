use Rattle.std.proofs.Common.{refl, arith}
use Rattle.sbe_types.proofs.ListSame.{more_same, whole_same}
use Rattle.type_kinds.proofs.same_kinds.+same_kinds.Goals as goal

pub are_equal-loop-i-preserved : goal.are_equal-loop-i-preserved
are_equal-loop-i-preserved t c =
    more_same c.args.a.now c.args.b.now c.loop-i.i c.at.result.now c.at-in-loop-i.result.now c.at.ensures c.at-in-loop-i.ensures
    (c.is_equal.ensures.0 c.if-not-is_equal.false) c.loop-i.invariant

pub are_equal-returns : goal.are_equal-returns
are_equal-returns t c = (λ _. whole_same c.args.a.now c.args.b.now c.loop-i.i (omega arith) (omega arith) c.loop-i.invariant, λ _. refl)
