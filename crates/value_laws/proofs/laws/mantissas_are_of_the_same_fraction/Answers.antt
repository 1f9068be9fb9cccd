use Rattle.value_laws.proofs.Fractions.{fit_same, fit_only}
use Rattle.value_laws.proofs.laws.mantissas_are_of_the_same_fraction.Goals as goal

pub returns-clause-same : goal.returns-clause-same
returns-clause-same c = fit_same

pub returns-clause-only : goal.returns-clause-only
returns-clause-only c = fit_only
