use Rattle.std.proofs.Common.{refl}
use Rattle.bridge_versions.proofs.Computing.{computing}
use Rattle.bridge_versions.proofs.rows.kind_rows.Goals as goal

pub returns-clause-text : goal.returns-clause-text
unfolding computing
returns-clause-text c = refl

pub returns-clause-number : goal.returns-clause-number
unfolding computing
returns-clause-number c = refl

pub returns-clause-listed : goal.returns-clause-listed
unfolding computing
returns-clause-listed c = refl

pub returns-clause-bits : goal.returns-clause-bits
unfolding computing
returns-clause-bits c = refl

pub returns-clause-fixed : goal.returns-clause-fixed
unfolding computing
returns-clause-fixed c = refl

pub returns-clause-decimal : goal.returns-clause-decimal
unfolding computing
returns-clause-decimal c = refl

pub returns-clause-unset : goal.returns-clause-unset
unfolding computing
returns-clause-unset c = refl
