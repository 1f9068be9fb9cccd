use Rattle.std.proofs.Common.{refl}
use Rattle.bridge_rules.proofs.Computing.{computing}
use Rattle.bridge_rules.proofs.rows.moment_rows.Goals as goal

pub returns-clause-covered : goal.returns-clause-covered
unfolding computing
returns-clause-covered c = refl

pub returns-clause-named : goal.returns-clause-named
unfolding computing
returns-clause-named c = refl

pub returns-clause-unit : goal.returns-clause-unit
unfolding computing
returns-clause-unit c = refl

pub returns-clause-wire : goal.returns-clause-wire
unfolding computing
returns-clause-wire c = refl

pub returns-clause-optional : goal.returns-clause-optional
unfolding computing
returns-clause-optional c = refl

pub returns-clause-text : goal.returns-clause-text
unfolding computing
returns-clause-text c = refl

pub returns-clause-read : goal.returns-clause-read
unfolding computing
returns-clause-read c = refl

pub returns-clause-inexact : goal.returns-clause-inexact
unfolding computing
returns-clause-inexact c = refl

pub returns-clause-leap : goal.returns-clause-leap
unfolding computing
returns-clause-leap c = refl
