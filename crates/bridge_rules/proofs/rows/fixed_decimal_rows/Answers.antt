use Rattle.std.proofs.Common.{refl}
use Rattle.bridge_rules.proofs.Computing.{computing}
use Rattle.bridge_rules.proofs.rows.fixed_decimal_rows.Goals as goal

pub returns-clause-covered : goal.returns-clause-covered
unfolding computing
returns-clause-covered c = refl

pub returns-clause-uncovered : goal.returns-clause-uncovered
unfolding computing
returns-clause-uncovered c = refl

pub returns-clause-named : goal.returns-clause-named
unfolding computing
returns-clause-named c = refl

pub returns-clause-text : goal.returns-clause-text
unfolding computing
returns-clause-text c = refl

pub returns-clause-read : goal.returns-clause-read
unfolding computing
returns-clause-read c = refl

pub returns-clause-inexact : goal.returns-clause-inexact
unfolding computing
returns-clause-inexact c = refl

pub returns-clause-far : goal.returns-clause-far
unfolding computing
returns-clause-far c = refl

pub returns-clause-missing : goal.returns-clause-missing
unfolding computing
returns-clause-missing c = refl
