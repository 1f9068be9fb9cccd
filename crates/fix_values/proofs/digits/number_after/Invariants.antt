use Rattle.std.proofs.Common.{◌≡◌, ◌<◌, ◌^◌, drop, IsTrue}
use Rattle.std.specs.Str.{all_ascii_digits}
use Rattle.std.specs.Str.Parse.{digits_value_after}
use Rattle.fix_values.proofs.digits.number_after.Given as goal

abbrev pub invariant-loop-digit : goal.invariant-loop-digit
invariant-loop-digit l = record {
  fits : l.so_far < 2 ^ 128;
  digits : IsTrue (all_ascii_digits (drop l.digit-index l.digits));
  same : digits_value_after 10 l.so_far (drop l.digit-index l.digits) ≡ digits_value_after 10 l.fn.number l.digits;
}
