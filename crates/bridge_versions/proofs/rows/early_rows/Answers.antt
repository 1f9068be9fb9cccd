use Rattle.std.proofs.Common.{refl}
use Rattle.bridge_versions.proofs.Computing.{computing}
use Rattle.sbe_wire.proofs.Computing.{computing as reading}
use Rattle.bridge_versions.proofs.rows.early_rows.Goals as goal

pub returns-clause-there : goal.returns-clause-there
unfolding computing
returns-clause-there c = refl

pub returns-clause-back : goal.returns-clause-back
unfolding computing
returns-clause-back c = refl

pub returns-clause-needed : goal.returns-clause-needed
unfolding computing
returns-clause-needed c = refl

pub returns-clause-read : goal.returns-clause-read
unfolding reading
returns-clause-read c = refl
