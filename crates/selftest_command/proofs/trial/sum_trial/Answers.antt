use Rattle.std.proofs.Common.{◌∙◌}
use Rattle.selftest_command.proofs.Summing.{none_yet, sums_next, within_next}
use Rattle.selftest_command.proofs.trial.sum_trial.Goals as goal

pub loop-index-init : goal.loop-index-init
loop-index-init c =
    let first = none_yet c.args.checked.now c.args.trial c.none-sums.result c.none-sums.ensures in
    (first.0, first.1, c.in_ok-new.ensures.limit)

pub loop-index-preserved : goal.loop-index-preserved
loop-index-preserved c = (
  sums_next c.args.checked.now c.args.trial c.loop-index.index _ _ _ c.loop-index.invariant.0 c.in_ok-one.ensures.sums c.plus-sums.ensures,
  within_next c.loop-index.index _ _ _ c.loop-index.invariant.1 c.in_ok-one.ensures.within c.plus-sums.ensures,
  c.sum_drawn.ensures.limit ∙ c.loop-index.invariant.2,
)
