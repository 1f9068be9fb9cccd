use Rattle.std.proofs.Common.{refl}
use Rattle.layout_tables.proofs.Computing.{computing}
use Rattle.layout_tables.proofs.worked.fields_follow_one_another.Goals as goal

pub returns-clause-constant : goal.returns-clause-constant
unfolding computing
returns-clause-constant c = refl

pub returns-clause-behind_it : goal.returns-clause-behind_it
unfolding computing
returns-clause-behind_it c = refl

pub returns-clause-array : goal.returns-clause-array
unfolding computing
returns-clause-array c = refl

pub returns-clause-stated : goal.returns-clause-stated
unfolding computing
returns-clause-stated c = refl
