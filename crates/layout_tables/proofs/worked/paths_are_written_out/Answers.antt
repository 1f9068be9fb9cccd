use Rattle.std.proofs.Common.{refl}
use Rattle.sbe_types.specs.declared.schema.Level.{items_shown-the_row-Group-0}
use Rattle.layout_tables.proofs.Computing.{computing}
use Rattle.layout_tables.proofs.worked.paths_are_written_out.Goals as goal

pub returns-clause-members : goal.returns-clause-members
unfolding computing
returns-clause-members c = simp items_shown-the_row-Group-0

pub returns-clause-element : goal.returns-clause-element
unfolding computing
returns-clause-element c = refl

pub returns-clause-data : goal.returns-clause-data
unfolding computing
returns-clause-data c = simp items_shown-the_row-Group-0

pub returns-clause-deepest : goal.returns-clause-deepest
unfolding computing
returns-clause-deepest c = simp items_shown-the_row-Group-0

pub returns-clause-root : goal.returns-clause-root
unfolding computing
returns-clause-root c = refl

pub returns-clause-nothing : goal.returns-clause-nothing
unfolding computing
returns-clause-nothing c = refl
