use Rattle.value_laws.proofs.DecimalsBack.{decimals_back, fits_back}
use Rattle.value_laws.proofs.laws.decimals_read_back.Goals as goal

pub returns-clause-same : goal.returns-clause-same
returns-clause-same c = decimals_back

pub returns-clause-mantissa : goal.returns-clause-mantissa
returns-clause-mantissa c = fits_back
