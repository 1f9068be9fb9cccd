use Rattle.bridge_terms.proofs.Arranging.{one_block}
use Rattle.bridge_terms.proofs.laws.a_block_is_known_by_its_values.Goals as goal

pub returns : goal.returns
returns c = λ level p b d complete deep lb hb ld hd same. one_block level p b d complete deep lb hb ld hd same
