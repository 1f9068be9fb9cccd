use Rattle.bridge_plan.proofs.Translating.{canonical_back}
use Rattle.bridge_plan.proofs.laws.a_canonical_message_comes_back.Goals as goal

pub returns : goal.returns
returns c = canonical_back
