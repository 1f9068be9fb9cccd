use Rattle.open_framing.proofs.LineLemmas.{lines_once}
use Rattle.open_framing.proofs.laws.lines_once.Goals as goal

pub returns : goal.returns
returns c = lines_once
