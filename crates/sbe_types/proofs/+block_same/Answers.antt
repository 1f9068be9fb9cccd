use Rattle.std.proofs.Common.{refl, arith}
use Rattle.sbe_types.proofs.ListSame.{more_same, whole_same}
use Rattle.sbe_types.proofs.+block_same.Goals as goal

pub message_same::are_same_groups-loop-i-preserved : goal.message_same::are_same_groups-loop-i-preserved
message_same::are_same_groups-loop-i-preserved t c =
    more_same c.args.a.now c.args.b.now c.loop-i.i c.at.result.now c.at-in-loop-i.result.now c.at.ensures c.at-in-loop-i.ensures
    (c.same.ensures.0 c.if-not-same.false) c.loop-i.invariant

pub message_same::are_same_groups-returns : goal.message_same::are_same_groups-returns
message_same::are_same_groups-returns t c = (λ _. whole_same c.args.a.now c.args.b.now c.loop-i.i (omega arith) (omega arith) c.loop-i.invariant, λ _. refl)

pub message_same::are_same_entries-loop-i-preserved : goal.message_same::are_same_entries-loop-i-preserved
message_same::are_same_entries-loop-i-preserved t c =
    more_same c.args.a.now c.args.b.now c.loop-i.i c.at.result.now c.at-in-loop-i.result.now c.at.ensures c.at-in-loop-i.ensures
    (c.same.ensures.0 c.if-not-same.false) c.loop-i.invariant

pub message_same::are_same_entries-returns : goal.message_same::are_same_entries-returns
message_same::are_same_entries-returns t c = (λ _. whole_same c.args.a.now c.args.b.now c.loop-i.i (omega arith) (omega arith) c.loop-i.invariant, λ _. refl)
