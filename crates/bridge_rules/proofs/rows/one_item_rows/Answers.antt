use Rattle.std.proofs.Common.{refl}
use Rattle.bridge_rules.proofs.Computing.{computing}
use Rattle.bridge_rules.proofs.rows.one_item_rows.Goals as goal

pub returns-clause-seconds : goal.returns-clause-seconds
unfolding computing
returns-clause-seconds c = refl

pub returns-clause-milliseconds : goal.returns-clause-milliseconds
unfolding computing
returns-clause-milliseconds c = refl

pub returns-clause-one : goal.returns-clause-one
unfolding computing
returns-clause-one c = refl

pub returns-clause-same : goal.returns-clause-same
unfolding computing
returns-clause-same c = refl

pub returns-clause-five : goal.returns-clause-five
unfolding computing
returns-clause-five c = refl

pub returns-clause-zero_five : goal.returns-clause-zero_five
unfolding computing
returns-clause-zero_five c = refl
