use Rattle.std.proofs.Common.{◌≡◌, ◌^◌, ◌<◌, drop}
use Rattle.std.specs.Str.{all_ascii_digits}
use Rattle.std.specs.Str.Parse.{digits_value, digits_value_after}
use Rattle.raw_walk.proofs.scan.number_of.Given as goal

abbrev pub invariant-loop-digit : goal.invariant-loop-digit
invariant-loop-digit l =
    (l.number < 10 ^ l.digit-index) × (digits_value_after 10 l.number (drop l.digit-index l.value) ≡ digits_value 10 l.value) ×
    (all_ascii_digits (drop l.digit-index l.value) ≡ all_ascii_digits l.value)
