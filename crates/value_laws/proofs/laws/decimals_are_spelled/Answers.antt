use Rattle.value_laws.proofs.Spelled.{reads, only}
use Rattle.value_laws.proofs.laws.decimals_are_spelled.Goals as goal

pub returns-clause-read : goal.returns-clause-read
returns-clause-read c = reads

pub returns-clause-only : goal.returns-clause-only
returns-clause-only c = only
