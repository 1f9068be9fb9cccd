use Rattle.regrade_laws.proofs.Fit.{dropped_fits, filled_fits}
use Rattle.regrade_laws.proofs.laws.counts_fit.Goals as goal

pub returns-clause-dropped : goal.returns-clause-dropped
returns-clause-dropped c = dropped_fits

pub returns-clause-filled : goal.returns-clause-filled
returns-clause-filled c = filled_fits
