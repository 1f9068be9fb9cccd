use Rattle.std.proofs.Common.{refl}
use Rattle.open_framing.proofs.Computing.{computing}
use Rattle.open_framing.proofs.laws.fault_rows.Goals as goal

pub returns-clause-short : goal.returns-clause-short
unfolding computing
returns-clause-short c = refl

pub returns-clause-long : goal.returns-clause-long
unfolding computing
returns-clause-long c = refl

pub returns-clause-strange : goal.returns-clause-strange
unfolding computing
returns-clause-strange c = refl
