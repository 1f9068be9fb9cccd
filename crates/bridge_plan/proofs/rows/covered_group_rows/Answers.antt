use Rattle.std.proofs.Common.{refl}
use Rattle.bridge_plan.proofs.Computing.{computing}
use Rattle.bridge_plan.proofs.rows.covered_group_rows.Goals as goal

pub returns-clause-covered : goal.returns-clause-covered
unfolding computing
returns-clause-covered c = refl

pub returns-clause-field : goal.returns-clause-field
unfolding computing
returns-clause-field c = refl

pub returns-clause-header : goal.returns-clause-header
unfolding computing
returns-clause-header c = refl

pub returns-clause-length : goal.returns-clause-length
unfolding computing
returns-clause-length c = refl

pub returns-clause-data : goal.returns-clause-data
unfolding computing
returns-clause-data c = refl

pub returns-clause-inside : goal.returns-clause-inside
unfolding computing
returns-clause-inside c = refl

pub returns-clause-header_inside : goal.returns-clause-header_inside
unfolding computing
returns-clause-header_inside c = refl
