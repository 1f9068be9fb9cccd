use Rattle.std.proofs.Common.{refl}
use Rattle.layout_tables.proofs.Computing.{computing}
use Rattle.layout_tables.proofs.worked.data_is_numbered_level_by_level.Goals as goal

pub returns-clause-names : goal.returns-clause-names
unfolding computing
returns-clause-names c = refl

pub returns-clause-number : goal.returns-clause-number
unfolding computing
returns-clause-number c = refl
