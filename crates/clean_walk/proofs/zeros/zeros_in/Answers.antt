use Rattle.clean_walk.proofs.ZeroBits.{zeros_compared}
use Rattle.clean_walk.proofs.zeros.zeros_in.Goals as goal

pub returns : goal.returns
returns c = zeros_compared c.args.bytes.now c.requires
