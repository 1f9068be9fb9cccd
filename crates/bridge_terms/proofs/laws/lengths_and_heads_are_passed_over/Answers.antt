use Rattle.bridge_terms.proofs.Lengths.{kept_again, head_passed}
use Rattle.bridge_terms.proofs.laws.lengths_and_heads_are_passed_over.Goals as goal

pub returns-clause-lengths : goal.returns-clause-lengths
returns-clause-lengths c = kept_again

pub returns-clause-head : goal.returns-clause-head
returns-clause-head c = head_passed
