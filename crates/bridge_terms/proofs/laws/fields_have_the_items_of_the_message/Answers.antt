use Rattle.bridge_terms.proofs.There.{same_items}
use Rattle.bridge_terms.proofs.laws.fields_have_the_items_of_the_message.Goals as goal

pub returns : goal.returns
returns c = λ p t fields root shown counts h. same_items p root t shown counts fields h
