use Rattle.std.proofs.Common.{refl}
use Rattle.layout_tables.proofs.Computing.{computing}
use Rattle.layout_tables.proofs.worked.floors_grow_by_versions.Goals as goal

pub returns-clause-first : goal.returns-clause-first
unfolding computing
returns-clause-first c = refl

pub returns-clause-second : goal.returns-clause-second
unfolding computing
returns-clause-second c = refl

pub returns-clause-greatest : goal.returns-clause-greatest
unfolding computing
returns-clause-greatest c = refl

pub returns-clause-later : goal.returns-clause-later
unfolding computing
returns-clause-later c = refl
