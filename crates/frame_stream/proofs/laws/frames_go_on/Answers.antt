use Rattle.frame_stream.proofs.Iterated.{cut_items}
use Rattle.frame_stream.proofs.laws.frames_go_on.Goals as goal

pub returns : goal.returns
returns c = cut_items
