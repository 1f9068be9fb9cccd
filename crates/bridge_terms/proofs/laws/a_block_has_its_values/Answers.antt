use Rattle.bridge_terms.proofs.Filling.{values_again}
use Rattle.bridge_terms.proofs.laws.a_block_has_its_values.Goals as goal

pub returns : goal.returns
returns c = λ level p t separate deep held. values_again level p t separate deep held
