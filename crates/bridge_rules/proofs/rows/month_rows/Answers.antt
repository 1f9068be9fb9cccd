use Rattle.std.proofs.Common.{refl}
use Rattle.bridge_rules.proofs.Computing.{computing}
use Rattle.bridge_rules.proofs.rows.month_rows.Goals as goal

pub returns-clause-covered : goal.returns-clause-covered
unfolding computing
returns-clause-covered c = refl

pub returns-clause-uncovered : goal.returns-clause-uncovered
unfolding computing
returns-clause-uncovered c = refl

pub returns-clause-day : goal.returns-clause-day
unfolding computing
returns-clause-day c = refl

pub returns-clause-whole : goal.returns-clause-whole
unfolding computing
returns-clause-whole c = refl

pub returns-clause-week : goal.returns-clause-week
unfolding computing
returns-clause-week c = refl

pub returns-clause-both : goal.returns-clause-both
unfolding computing
returns-clause-both c = refl

pub returns-clause-no_day : goal.returns-clause-no_day
unfolding computing
returns-clause-no_day c = refl

pub returns-clause-large : goal.returns-clause-large
unfolding computing
returns-clause-large c = refl
