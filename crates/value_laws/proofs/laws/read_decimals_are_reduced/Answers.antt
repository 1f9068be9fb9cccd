use Rattle.value_laws.proofs.Reduced.{read_reduced}
use Rattle.value_laws.proofs.laws.read_decimals_are_reduced.Goals as goal

pub returns : goal.returns
returns c = read_reduced
