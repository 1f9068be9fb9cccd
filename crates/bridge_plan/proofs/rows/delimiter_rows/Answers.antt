use Rattle.std.proofs.Common.{refl}
use Rattle.bridge_plan.proofs.Computing.{computing}
use Rattle.bridge_plan.proofs.rows.delimiter_rows.Goals as goal

pub returns-clause-missing : goal.returns-clause-missing
unfolding computing
returns-clause-missing c = refl

pub returns-clause-header : goal.returns-clause-header
unfolding computing
returns-clause-header c = refl

pub returns-clause-length : goal.returns-clause-length
unfolding computing
returns-clause-length c = refl

pub returns-clause-data : goal.returns-clause-data
unfolding computing
returns-clause-data c = refl

pub returns-clause-group : goal.returns-clause-group
unfolding computing
returns-clause-group c = refl

pub returns-clause-nothing : goal.returns-clause-nothing
unfolding computing
returns-clause-nothing c = refl

pub returns-clause-empty_component : goal.returns-clause-empty_component
unfolding computing
returns-clause-empty_component c = refl
