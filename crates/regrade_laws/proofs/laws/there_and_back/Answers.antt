use Rattle.regrade_laws.proofs.Same.{same_back}
use Rattle.regrade_laws.proofs.Wholly.{checked_wholly}
use Rattle.regrade_laws.proofs.laws.there_and_back.Goals as goal

pub returns : goal.returns
returns c = λ from to same checked good one m n fits told. same_back from to same checked.placed one (checked_wholly from checked) (checked_wholly to good) m n fits told
