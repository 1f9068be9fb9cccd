use Rattle.value_laws.proofs.ReadBack.{read_spelled, spelled_back}
use Rattle.value_laws.proofs.laws.integers_are_spelled.Goals as goal

pub returns-clause-read : goal.returns-clause-read
returns-clause-read c = read_spelled

pub returns-clause-only : goal.returns-clause-only
returns-clause-only c = spelled_back
