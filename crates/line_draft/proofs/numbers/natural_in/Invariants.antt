use Rattle.std.proofs.Common.{◌≡◌}
use Rattle.line_draft.proofs.numbers.natural_in.Given as goal

abbrev pub invariant-loop-b : goal.invariant-loop-b
invariant-loop-b l = l.count ≡ l.b-index
