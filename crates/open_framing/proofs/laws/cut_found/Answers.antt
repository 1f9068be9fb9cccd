use Rattle.open_framing.proofs.FrameLemmas.{cut_found}
use Rattle.open_framing.proofs.laws.cut_found.Goals as goal

pub returns : goal.returns
returns c = cut_found
