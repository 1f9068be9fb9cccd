use Rattle.sbe_types.specs.declared.message.GroupVal.{items_hidden-the_row-Block-1}
use Rattle.sbe_wire.proofs.Computing.{computing}
use Rattle.sbe_wire.proofs.worked.block_length_is_written_of_no_entry.Goals as goal

pub returns : goal.returns
unfolding computing
returns c = simp items_hidden-the_row-Block-1
