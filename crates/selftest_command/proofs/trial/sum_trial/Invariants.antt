use Rattle.std.proofs.Common.{◌≡◌, ◌*◌, ◌-◌}
use Rattle.open_framing.specs.declared.head.TheConstants.{HEAD_BYTES}
use Rattle.selftest_command.specs.declared.sums.TheConstants.{MOST_ADDED}
use Rattle.selftest_command.specs.Selftest.{AreWithin, sums_until}
use Rattle.selftest_command.proofs.trial.sum_trial.Given as goal

abbrev pub invariant-loop-index : goal.invariant-loop-index
invariant-loop-index l =
    (l.sums ≡ sums_until l.checked l.trial l.index) × AreWithin (MOST_ADDED * l.index) l.sums × (l.space.buffer.limit ≡ l.trial.frame - HEAD_BYTES)
