use Rattle.std.proofs.Common.{refl}
use Rattle.bridge_plan.proofs.Computing.{computing}
use Rattle.bridge_plan.proofs.rows.covered_field_rows.Goals as goal

pub returns-clause-text : goal.returns-clause-text
unfolding computing
returns-clause-text c = refl

pub returns-clause-header : goal.returns-clause-header
unfolding computing
returns-clause-header c = refl

pub returns-clause-length : goal.returns-clause-length
unfolding computing
returns-clause-length c = refl

pub returns-clause-data : goal.returns-clause-data
unfolding computing
returns-clause-data c = refl

pub returns-clause-elsewhere : goal.returns-clause-elsewhere
unfolding computing
returns-clause-elsewhere c = refl

pub returns-clause-count : goal.returns-clause-count
unfolding computing
returns-clause-count c = refl

pub returns-clause-deeper : goal.returns-clause-deeper
unfolding computing
returns-clause-deeper c = refl

pub returns-clause-again : goal.returns-clause-again
unfolding computing
returns-clause-again c = refl

pub returns-clause-ruleless : goal.returns-clause-ruleless
unfolding computing
returns-clause-ruleless c = refl
