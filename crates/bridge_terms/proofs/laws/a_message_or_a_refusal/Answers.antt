use Rattle.bridge_terms.proofs.Turning.{back_from, back_so}
use Rattle.bridge_terms.proofs.Refusing.{unrefused_read, read_unrefused}
use Rattle.bridge_terms.proofs.laws.a_message_or_a_refusal.Goals as goal

pub returns-clause-read : goal.returns-clause-read
returns-clause-read c = λ p fields placed sound h. let is = unrefused_read p placed fields h in (is.0, back_from p sound fields is.0 is.1)

pub returns-clause-only : goal.returns-clause-only
returns-clause-only c = λ p fields t sound back. read_unrefused p fields t (back_so p sound fields t back)
