use Rattle.std.proofs.Common.{◌≤◌, ◌-◌, length}
use Rattle.named_numbers.proofs.choices.is_found.Given as goal

abbrev pub invariant-loop-low : goal.invariant-loop-low
invariant-loop-low l = l.high ≤ length l.names

abbrev pub decreases-loop-low : goal.decreases-loop-low
decreases-loop-low l = l.high - l.low
