use Rattle.open_framing.proofs.FrameLemmas.{cut_more}
use Rattle.open_framing.proofs.laws.cut_goes_on.Goals as goal

pub returns : goal.returns
returns c = cut_more
