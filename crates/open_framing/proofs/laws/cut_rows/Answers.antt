use Rattle.std.proofs.Common.{refl}
use Rattle.open_framing.proofs.Computing.{computing}
use Rattle.open_framing.proofs.laws.cut_rows.Goals as goal

pub returns-clause-one : goal.returns-clause-one
unfolding computing
returns-clause-one c = refl

pub returns-clause-none : goal.returns-clause-none
unfolding computing
returns-clause-none c = refl

pub returns-clause-two : goal.returns-clause-two
unfolding computing
returns-clause-two c = refl

pub returns-clause-limit : goal.returns-clause-limit
unfolding computing
returns-clause-limit c = refl
