use Rattle.std.proofs.Common.{◌≡◌, ◌≤◌, take, length}
use Rattle.fix_values.specs.Decimals.{without_trailing}
use Rattle.fix_values.proofs.decimal.without_trailing_zeros.Given as goal

abbrev pub decreases-loop-end : goal.decreases-loop-end
decreases-loop-end l = l.end

abbrev pub invariant-loop-end : goal.invariant-loop-end
invariant-loop-end l = record {
  within : l.end ≤ length l.digits;
  same : without_trailing (take l.end l.digits) ≡ without_trailing l.digits;
}
