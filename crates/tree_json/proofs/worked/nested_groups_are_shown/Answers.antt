use Rattle.sbe_types.specs.declared.message.GroupVal.{items_hidden-the_row-Block-1}
use Rattle.sbe_types.specs.declared.message.Value.{items_hidden-the_row-Value-0}
use Rattle.tree_json.proofs.Computing.{computing}
use Rattle.tree_json.proofs.worked.nested_groups_are_shown.Goals as goal

pub returns : goal.returns
unfolding computing
returns c = simp (items_hidden-the_row-Block-1, items_hidden-the_row-Value-0)
