use Rattle.std.proofs.Common.{refl}
use Rattle.bridge_rules.proofs.Computing.{computing}
use Rattle.bridge_rules.proofs.rows.integer_rows.Goals as goal

pub returns-clause-covered : goal.returns-clause-covered
unfolding computing
returns-clause-covered c = refl

pub returns-clause-uncovered : goal.returns-clause-uncovered
unfolding computing
returns-clause-uncovered c = refl

pub returns-clause-text : goal.returns-clause-text
unfolding computing
returns-clause-text c = refl

pub returns-clause-null : goal.returns-clause-null
unfolding computing
returns-clause-null c = refl

pub returns-clause-read : goal.returns-clause-read
unfolding computing
returns-clause-read c = refl

pub returns-clause-signed : goal.returns-clause-signed
unfolding computing
returns-clause-signed c = refl

pub returns-clause-large : goal.returns-clause-large
unfolding computing
returns-clause-large c = refl

pub returns-clause-missing : goal.returns-clause-missing
unfolding computing
returns-clause-missing c = refl

pub returns-clause-required : goal.returns-clause-required
unfolding computing
returns-clause-required c = refl
