use Rattle.bridge_terms.proofs.There.{good_back}
use Rattle.bridge_terms.proofs.laws.a_good_message_comes_back.Goals as goal

pub returns : goal.returns
returns c = λ p t fields root sound shows good counts h. good_back p root sound shows t good counts fields h
