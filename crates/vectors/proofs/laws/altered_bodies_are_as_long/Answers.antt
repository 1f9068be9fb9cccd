use Rattle.vectors.proofs.Wholes.{altered_length}
use Rattle.vectors.proofs.laws.altered_bodies_are_as_long.Goals as goal

pub returns : goal.returns
returns c = altered_length
