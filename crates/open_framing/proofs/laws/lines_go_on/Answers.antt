use Rattle.open_framing.proofs.LineLemmas.{lines_more}
use Rattle.open_framing.proofs.laws.lines_go_on.Goals as goal

pub returns : goal.returns
returns c = lines_more
