use Rattle.std.proofs.Common.{refl}
use Rattle.bridge_rules.proofs.Computing.{computing}
use Rattle.bridge_rules.proofs.rows.floating_decimal_rows.Goals as goal

pub returns-clause-covered : goal.returns-clause-covered
unfolding computing
returns-clause-covered c = refl

pub returns-clause-whole : goal.returns-clause-whole
unfolding computing
returns-clause-whole c = refl

pub returns-clause-longer : goal.returns-clause-longer
unfolding computing
returns-clause-longer c = refl

pub returns-clause-text : goal.returns-clause-text
unfolding computing
returns-clause-text c = refl

pub returns-clause-read : goal.returns-clause-read
unfolding computing
returns-clause-read c = refl

pub returns-clause-far : goal.returns-clause-far
unfolding computing
returns-clause-far c = refl

pub returns-clause-without : goal.returns-clause-without
unfolding computing
returns-clause-without c = refl

pub returns-clause-missing : goal.returns-clause-missing
unfolding computing
returns-clause-missing c = refl
