use Rattle.bridge_terms.proofs.Turning.{one_back}
use Rattle.bridge_terms.proofs.laws.at_most_one_message_back.Goals as goal

pub returns : goal.returns
returns c = λ p fields t u sound a b. one_back p sound fields t u a b
