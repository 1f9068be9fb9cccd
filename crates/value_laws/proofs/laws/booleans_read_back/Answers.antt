use Rattle.value_laws.proofs.ReadBack.{boolean_back}
use Rattle.value_laws.proofs.laws.booleans_read_back.Goals as goal

pub returns : goal.returns
returns c = boolean_back
