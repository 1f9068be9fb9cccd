use Rattle.open_framing.proofs.FrameLemmas.{cut_once}
use Rattle.open_framing.proofs.laws.cut_once.Goals as goal

pub returns : goal.returns
returns c = cut_once
