use Rattle.sbe_types.specs.declared.schema.Level.{items_shown-the_row-Group-0}
use Rattle.layout_tables.proofs.Computing.{computing}
use Rattle.layout_tables.proofs.worked.entries_have_the_least_that_is_alive.Goals as goal

pub returns-clause-first : goal.returns-clause-first
unfolding computing
returns-clause-first c = simp items_shown-the_row-Group-0

pub returns-clause-second : goal.returns-clause-second
unfolding computing
returns-clause-second c = simp items_shown-the_row-Group-0

pub returns-clause-last : goal.returns-clause-last
unfolding computing
returns-clause-last c = simp items_shown-the_row-Group-0

pub returns-clause-entry : goal.returns-clause-entry
unfolding computing
returns-clause-entry c = simp items_shown-the_row-Group-0
