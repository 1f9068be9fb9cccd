use Rattle.bridge_plan.proofs.Translating.{passed}
use Rattle.bridge_plan.proofs.laws.heads_and_lengths_are_skipped.Goals as goal

pub returns : goal.returns
returns c = passed
