use Rattle.std.proofs.Common.{refl}
use Rattle.bridge_rules.proofs.Computing.{computing}
use Rattle.bridge_rules.proofs.rows.set_rows.Goals as goal

pub returns-clause-covered : goal.returns-clause-covered
unfolding computing
returns-clause-covered c = refl

pub returns-clause-codes : goal.returns-clause-codes
unfolding computing
returns-clause-codes c = refl

pub returns-clause-long : goal.returns-clause-long
unfolding computing
returns-clause-long c = refl

pub returns-clause-text : goal.returns-clause-text
unfolding computing
returns-clause-text c = refl

pub returns-clause-without : goal.returns-clause-without
unfolding computing
returns-clause-without c = refl

pub returns-clause-empty : goal.returns-clause-empty
unfolding computing
returns-clause-empty c = refl

pub returns-clause-read : goal.returns-clause-read
unfolding computing
returns-clause-read c = refl

pub returns-clause-twice : goal.returns-clause-twice
unfolding computing
returns-clause-twice c = refl

pub returns-clause-missing : goal.returns-clause-missing
unfolding computing
returns-clause-missing c = refl
