use Rattle.vectors.proofs.Wholes.{times_many}
use Rattle.vectors.proofs.laws.as_many_are_drawn.Goals as goal

pub returns : goal.returns
returns c = λ n draw words. times_many n draw words
