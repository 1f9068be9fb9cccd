use Rattle.std.proofs.Common.{refl}
use Rattle.bridge_rules.proofs.Computing.{computing}
use Rattle.bridge_rules.proofs.rows.counted_rows.Goals as goal

pub returns-clause-decimal : goal.returns-clause-decimal
unfolding computing
returns-clause-decimal c = refl

pub returns-clause-letter : goal.returns-clause-letter
unfolding computing
returns-clause-letter c = refl

pub returns-clause-whole : goal.returns-clause-whole
unfolding computing
returns-clause-whole c = refl

pub returns-clause-half : goal.returns-clause-half
unfolding computing
returns-clause-half c = refl

pub returns-clause-day : goal.returns-clause-day
unfolding computing
returns-clause-day c = refl

pub returns-clause-moment : goal.returns-clause-moment
unfolding computing
returns-clause-moment c = refl

pub returns-clause-shown : goal.returns-clause-shown
unfolding computing
returns-clause-shown c = refl

pub returns-clause-no_day : goal.returns-clause-no_day
unfolding computing
returns-clause-no_day c = refl
