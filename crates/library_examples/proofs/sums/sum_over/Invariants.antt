use Rattle.library_examples.proofs.Adding.{Added}
use Rattle.library_examples.proofs.sums.sum_over.Given as goal

abbrev pub invariant-loop-entry : goal.invariant-loop-entry
invariant-loop-entry l = Added l.field l.sum l.entry-iterator l.fn.entries
