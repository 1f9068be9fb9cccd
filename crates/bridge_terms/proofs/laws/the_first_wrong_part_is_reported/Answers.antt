use Rattle.bridge_terms.proofs.Firsts.{first_wrong, wrong_first}
use Rattle.bridge_terms.proofs.laws.the_first_wrong_part_is_reported.Goals as goal

pub returns-clause-told : goal.returns-clause-told
returns-clause-told c = first_wrong

pub returns-clause-only : goal.returns-clause-only
returns-clause-only c = wrong_first
