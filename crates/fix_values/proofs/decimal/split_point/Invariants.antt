use Rattle.std.proofs.Common.{◌≡◌, ◌++◌, take, drop}
use Rattle.fix_values.specs.Decimals.{before_point, behind_point}
use Rattle.fix_values.proofs.decimal.split_point.Given as goal

abbrev pub invariant-loop-i : goal.invariant-loop-i
invariant-loop-i l = record {
  whole : take l.i l.digits ++ before_point (drop l.i l.digits) ≡ before_point l.digits;
  fraction : behind_point (drop l.i l.digits) ≡ behind_point l.digits;
}
