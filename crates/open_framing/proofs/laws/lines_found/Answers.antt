use Rattle.open_framing.proofs.LineLemmas.{lines_found}
use Rattle.open_framing.proofs.laws.lines_found.Goals as goal

pub returns : goal.returns
returns c = lines_found
