use Rattle.std.proofs.Common.{refl}
use Rattle.value_laws.proofs.rows.fitted_rows.Goals as goal

pub returns-clause-cut : goal.returns-clause-cut
returns-clause-cut c = refl

pub returns-clause-wide : goal.returns-clause-wide
returns-clause-wide c = refl
