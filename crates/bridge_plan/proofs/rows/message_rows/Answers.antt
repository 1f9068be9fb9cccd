use Rattle.std.proofs.Common.{refl}
use Rattle.bridge_plan.proofs.Computing.{computing}
use Rattle.bridge_plan.proofs.rows.message_rows.Goals as goal

pub returns-clause-no_type : goal.returns-clause-no_type
unfolding computing
returns-clause-no_type c = refl

pub returns-clause-no_message : goal.returns-clause-no_message
unfolding computing
returns-clause-no_message c = refl

pub returns-clause-one : goal.returns-clause-one
unfolding computing
returns-clause-one c = refl

pub returns-clause-none : goal.returns-clause-none
unfolding computing
returns-clause-none c = refl

pub returns-clause-several : goal.returns-clause-several
unfolding computing
returns-clause-several c = refl

pub returns-clause-only : goal.returns-clause-only
unfolding computing
returns-clause-only c = refl

pub returns-clause-no_other : goal.returns-clause-no_other
unfolding computing
returns-clause-no_other c = refl

pub returns-clause-ambiguous : goal.returns-clause-ambiguous
unfolding computing
returns-clause-ambiguous c = refl

pub returns-clause-unmapped : goal.returns-clause-unmapped
unfolding computing
returns-clause-unmapped c = refl
