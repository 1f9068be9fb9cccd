use Rattle.misfit_laws.proofs.Ways.{misfit_way}
use Rattle.misfit_laws.proofs.laws.misfits_have_ways.Goals as goal

pub returns : goal.returns
returns c = misfit_way
