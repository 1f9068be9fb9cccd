use Rattle.frame_stream.proofs.Iterated.{lines_items}
use Rattle.frame_stream.proofs.laws.all_lines_go_on.Goals as goal

pub returns : goal.returns
returns c = lines_items
