use Rattle.std.proofs.Common.{◌≡◌}
use Rattle.library_examples.specs.Prices.{last_after, last_price}
use Rattle.library_examples.proofs.prices.last_over.Given as goal

abbrev pub invariant-loop-entry : goal.invariant-loop-entry
invariant-loop-entry l = last_after l.price l.last l.entry-iterator ≡ last_price l.price l.fn.entries
