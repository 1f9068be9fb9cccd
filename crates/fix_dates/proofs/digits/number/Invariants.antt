use Rattle.std.proofs.Common.{◌≡◌, ◌^◌, ◌<◌, drop}
use Rattle.fix_dates.specs.Digits.{number_after, number_in}
use Rattle.fix_dates.proofs.digits.number.Given as goal

abbrev pub invariant-loop-digit : goal.invariant-loop-digit
invariant-loop-digit l = (number_after l.number (drop l.digit-index l.text) ≡ number_in l.text) × (l.number < 10 ^ l.digit-index)
