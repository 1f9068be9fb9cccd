use Rattle.std.proofs.Common.{◌≡◌, drop}
use Rattle.fix_values.specs.Codes.{is_apart, same_number}
use Rattle.fix_values.proofs.apart.are_numbers_apart.Given as goal

abbrev pub invariant-loop-i : goal.invariant-loop-i
invariant-loop-i l = is_apart same_number (drop l.i l.list) ≡ is_apart same_number l.list
