use Rattle.std.proofs.Common.{◌≡◌, drop}
use Rattle.fix_values.specs.Decimals.{without_leading}
use Rattle.fix_values.proofs.decimal.without_leading_zeros.Given as goal

abbrev pub invariant-loop-i : goal.invariant-loop-i
invariant-loop-i l = without_leading (drop l.i l.digits) ≡ without_leading l.digits
