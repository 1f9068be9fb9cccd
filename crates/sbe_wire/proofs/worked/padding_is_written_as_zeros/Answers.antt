use Rattle.sbe_types.specs.declared.message.GroupVal.{items_hidden-the_row-Block-1}
use Rattle.sbe_wire.proofs.Computing.{computing}
use Rattle.sbe_wire.proofs.worked.padding_is_written_as_zeros.Goals as goal

pub returns : goal.returns
unfolding computing
returns c = simp items_hidden-the_row-Block-1
