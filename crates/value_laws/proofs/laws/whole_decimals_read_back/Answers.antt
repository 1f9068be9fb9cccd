use Rattle.value_laws.proofs.WholeBack.{whole_back}
use Rattle.value_laws.proofs.laws.whole_decimals_read_back.Goals as goal

pub returns : goal.returns
returns c = whole_back
