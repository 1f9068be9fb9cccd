use Rattle.bridge_plan.proofs.Translating.{one_message}
use Rattle.bridge_plan.proofs.laws.at_most_one_message_of_a_text.Goals as goal

pub returns : goal.returns
returns c = one_message
