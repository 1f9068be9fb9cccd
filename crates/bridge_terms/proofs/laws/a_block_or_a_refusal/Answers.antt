use Rattle.bridge_terms.proofs.Whole.{some_block, one_back_block, block_unrefused}
use Rattle.bridge_terms.proofs.laws.a_block_or_a_refusal.Goals as goal

pub returns-clause-some : goal.returns-clause-some
returns-clause-some c = λ level p fields plan placed sound h. some_block level p plan placed sound fields h

pub returns-clause-one : goal.returns-clause-one
returns-clause-one c = λ level p fields b d plan sound h k. one_back_block level p plan sound fields b d h k

pub returns-clause-only : goal.returns-clause-only
returns-clause-only c = λ level p fields b sound h. block_unrefused level p sound fields b h
