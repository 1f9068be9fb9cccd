use Rattle.std.proofs.Common.{◌≡◌, drop}
use Rattle.fix_values.specs.Codes.{is_apart, same_truth}
use Rattle.bridge_table.proofs.codes.are_truths_apart.Given as goal

abbrev pub invariant-loop-i : goal.invariant-loop-i
invariant-loop-i l = is_apart same_truth (drop l.i l.list) ≡ is_apart same_truth l.list
