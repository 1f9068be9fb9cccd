use Rattle.std.proofs.Common.{refl}
use Rattle.sbe_types.specs.declared.schema.Level.{items_shown-the_row-Group-0}
use Rattle.layout_tables.proofs.Computing.{computing}
use Rattle.layout_names.proofs.worked.parts_are_found_by_their_names.Goals as goal

pub returns-clause-message : goal.returns-clause-message
unfolding computing
returns-clause-message c = refl

pub returns-clause-field : goal.returns-clause-field
unfolding computing
returns-clause-field c = refl

pub returns-clause-group : goal.returns-clause-group
unfolding computing
returns-clause-group c = simp items_shown-the_row-Group-0

pub returns-clause-part : goal.returns-clause-part
unfolding computing
returns-clause-part c = refl
