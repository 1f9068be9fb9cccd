use Rattle.vectors.proofs.Wholes.{amount_within}
use Rattle.vectors.proofs.laws.amounts_are_admitted.Goals as goal

pub returns : goal.returns
returns c = amount_within
