use Rattle.bridge_terms.proofs.Turning.{back_from, back_so}
use Rattle.bridge_terms.proofs.laws.gathered_values_are_the_message.Goals as goal

pub returns-clause-read : goal.returns-clause-read
returns-clause-read c = λ p fields t sound h. back_from p sound fields t h

pub returns-clause-only : goal.returns-clause-only
returns-clause-only c = λ p fields t sound h. back_so p sound fields t h
