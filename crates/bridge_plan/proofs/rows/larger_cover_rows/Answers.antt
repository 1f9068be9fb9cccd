use Rattle.std.proofs.Common.{refl}
use Rattle.bridge_plan.proofs.Computing.{computing}
use Rattle.bridge_plan.proofs.rows.larger_cover_rows.Goals as goal

pub returns-clause-lacking : goal.returns-clause-lacking
unfolding computing
returns-clause-lacking c = refl

pub returns-clause-data : goal.returns-clause-data
unfolding computing
returns-clause-data c = refl

pub returns-clause-zoned : goal.returns-clause-zoned
unfolding computing
returns-clause-zoned c = refl

pub returns-clause-other : goal.returns-clause-other
unfolding computing
returns-clause-other c = refl
