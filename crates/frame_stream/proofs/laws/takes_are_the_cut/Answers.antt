use Rattle.frame_stream.proofs.Iterated.{cut_taken}
use Rattle.frame_stream.proofs.laws.takes_are_the_cut.Goals as goal

pub returns : goal.returns
returns c = cut_taken
