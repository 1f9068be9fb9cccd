use Rattle.std.proofs.Common.{refl}
use Rattle.layout_tables.proofs.Computing.{computing}
use Rattle.layout_names.proofs.worked.nothing_else_is_found.Goals as goal

pub returns-clause-group : goal.returns-clause-group
unfolding computing
returns-clause-group c = refl

pub returns-clause-front : goal.returns-clause-front
unfolding computing
returns-clause-front c = refl

pub returns-clause-level : goal.returns-clause-level
unfolding computing
returns-clause-level c = refl
