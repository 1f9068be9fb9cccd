use Rattle.std.proofs.Common.{refl}
use Rattle.bridge_plan.proofs.Computing.{computing}
use Rattle.bridge_plan.proofs.rows.set_rows.Goals as goal

pub returns-clause-cover : goal.returns-clause-cover
unfolding computing
returns-clause-cover c = refl

pub returns-clause-there : goal.returns-clause-there
unfolding computing
returns-clause-there c = refl

pub returns-clause-empty : goal.returns-clause-empty
unfolding computing
returns-clause-empty c = refl

pub returns-clause-bare : goal.returns-clause-bare
unfolding computing
returns-clause-bare c = refl

pub returns-clause-back : goal.returns-clause-back
unfolding computing
returns-clause-back c = refl

pub returns-clause-unlike : goal.returns-clause-unlike
unfolding computing
returns-clause-unlike c = refl

pub returns-clause-twice : goal.returns-clause-twice
unfolding computing
returns-clause-twice c = refl

pub returns-clause-missing : goal.returns-clause-missing
unfolding computing
returns-clause-missing c = refl
