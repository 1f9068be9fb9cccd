use Rattle.flat_rows.proofs.ValuesShow.{block_shown}
use Rattle.flat_rows.proofs.laws.values_that_show_are_a_block.Goals as goal

pub returns : goal.returns
returns c = block_shown
