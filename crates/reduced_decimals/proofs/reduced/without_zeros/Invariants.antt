use Rattle.std.proofs.Common.{◌<◌, ◌+◌, ◌≤ℤ◌, pos}
use Rattle.fix_values.specs.Decimals.{dec, SameFraction}
use Rattle.reduced_decimals.proofs.reduced.without_zeros.Given as goal

abbrev pub invariant-loop-done : goal.invariant-loop-done
invariant-loop-done l = record {
  some : 0 < l.left;
  high : l.moved ≤ℤ pos (18 + l.done);
  same : SameFraction (dec (pos l.left) l.moved) (dec (pos l.size) l.exponent);
}
