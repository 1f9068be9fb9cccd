use Rattle.value_laws.proofs.ReadBack.{integer_back}
use Rattle.value_laws.proofs.laws.integers_read_back.Goals as goal

pub returns : goal.returns
returns c = integer_back
