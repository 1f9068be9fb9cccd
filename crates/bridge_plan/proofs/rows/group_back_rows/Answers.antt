use Rattle.std.proofs.Common.{refl}
use Rattle.bridge_plan.proofs.Computing.{computing}
use Rattle.bridge_plan.proofs.rows.group_back_rows.Goals as goal

pub returns-clause-fine : goal.returns-clause-fine
unfolding computing
returns-clause-fine c = refl

pub returns-clause-none : goal.returns-clause-none
unfolding computing
returns-clause-none c = refl

pub returns-clause-zeros : goal.returns-clause-zeros
unfolding computing
returns-clause-zeros c = refl

pub returns-clause-spelling : goal.returns-clause-spelling
unfolding computing
returns-clause-spelling c = refl

pub returns-clause-range : goal.returns-clause-range
unfolding computing
returns-clause-range c = refl

pub returns-clause-negative : goal.returns-clause-negative
unfolding computing
returns-clause-negative c = refl

pub returns-clause-more : goal.returns-clause-more
unfolding computing
returns-clause-more c = refl

pub returns-clause-no_run : goal.returns-clause-no_run
unfolding computing
returns-clause-no_run c = refl

pub returns-clause-elsewhere : goal.returns-clause-elsewhere
unfolding computing
returns-clause-elsewhere c = refl

pub returns-clause-twice : goal.returns-clause-twice
unfolding computing
returns-clause-twice c = refl

pub returns-clause-begins : goal.returns-clause-begins
unfolding computing
returns-clause-begins c = refl

pub returns-clause-lacked : goal.returns-clause-lacked
unfolding computing
returns-clause-lacked c = refl

pub returns-clause-entry_twice : goal.returns-clause-entry_twice
unfolding computing
returns-clause-entry_twice c = refl

pub returns-clause-entry_missing : goal.returns-clause-entry_missing
unfolding computing
returns-clause-entry_missing c = refl
