use Rattle.vectors.proofs.Wholes.{number_within}
use Rattle.vectors.proofs.laws.numbers_lie_in_range.Goals as goal

pub returns : goal.returns
returns c = number_within
