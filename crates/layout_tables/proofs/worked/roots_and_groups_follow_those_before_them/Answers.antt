use Rattle.std.proofs.Common.{refl}
use Rattle.sbe_types.specs.declared.schema.Level.{items_shown-the_row-Group-0}
use Rattle.layout_tables.proofs.Computing.{computing}
use Rattle.layout_tables.proofs.worked.roots_and_groups_follow_those_before_them.Goals as goal

pub returns-clause-root : goal.returns-clause-root
unfolding computing
returns-clause-root c = refl

pub returns-clause-group : goal.returns-clause-group
unfolding computing
returns-clause-group c = simp items_shown-the_row-Group-0
