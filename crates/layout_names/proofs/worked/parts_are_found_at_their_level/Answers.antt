use Rattle.std.proofs.Common.{refl}
use Rattle.layout_tables.proofs.Computing.{computing}
use Rattle.layout_names.proofs.worked.parts_are_found_at_their_level.Goals as goal

pub returns-clause-inside : goal.returns-clause-inside
unfolding computing
returns-clause-inside c = refl

pub returns-clause-around : goal.returns-clause-around
unfolding computing
returns-clause-around c = refl
