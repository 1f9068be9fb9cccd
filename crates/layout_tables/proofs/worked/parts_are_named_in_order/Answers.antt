use Rattle.std.proofs.Common.{refl}
use Rattle.sbe_types.specs.declared.schema.Level.{items_shown-the_row-Group-0}
use Rattle.layout_tables.proofs.Computing.{computing}
use Rattle.layout_tables.proofs.worked.parts_are_named_in_order.Goals as goal

pub returns-clause-field : goal.returns-clause-field
unfolding computing
returns-clause-field c = refl

pub returns-clause-group : goal.returns-clause-group
unfolding computing
returns-clause-group c = simp items_shown-the_row-Group-0

pub returns-clause-data : goal.returns-clause-data
unfolding computing
returns-clause-data c = simp items_shown-the_row-Group-0
