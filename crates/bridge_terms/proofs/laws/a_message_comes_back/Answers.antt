use Rattle.bridge_terms.proofs.There.{there_and_back}
use Rattle.bridge_terms.proofs.laws.a_message_comes_back.Goals as goal

pub returns : goal.returns
returns c = λ p t fields root sound shown good counts h. there_and_back p root sound t shown good counts fields h
